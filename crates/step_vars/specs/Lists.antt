-- What the loops of the encoding run over: ions, places, channels, operations, and pairs of them.
use Rattle.std.specs.Prelude.{ℕ, ◌+◌, ◌-◌, ◌==◌, Bool, false, ◌||◌, not, if◌then◌else◌, List, [], ◌∷◌, length, map, filter, slice_get}
use Rattle.std.specs.List.{flat_map, range_with_len, list_any}
use Rattle.std.specs.Option.{option_map_or}
use Rattle.qc_base.specs.declared.ids.Ion.{Ion}
use Rattle.circuit_core.specs.Circuit.{CircuitValue, qubit_count}
use Rattle.circuit_core.specs.declared.op.Op.{Op}
use Rattle.circuit_core.specs.Op.{qubits_of}
use Rattle.circuit_core.specs.Deciding.{is_forced}
use Rattle.circuit_core.specs.Order.{is_performed}
use Rattle.trap_model.specs.Trap.{place_count, is_zone}
use Rattle.trap_model.specs.Channels.{channels_of, splits, merges}
use Rattle.trap_model.specs.declared.channel.Channel.{Channel}
use Rattle.step_rules.specs.Placement.{ion_of, start_of}
use Rattle.step_rules.specs.Setting.{SettingValue}
use Rattle.step_rules.specs.Guards.{is_able_for}
use Rattle.step_vars.specs.declared.cells.Cell.{Cell}
use Rattle.step_vars.specs.declared.channel_test.NumberedChannel.{NumberedChannel}

abbrev pub cell : ℕ → ℕ → Cell
cell row col = record { row = row; col = col }

abbrev pub ion_count : SettingValue → ℕ
ion_count setting = qubit_count setting.circuit

abbrev pub ions_of : SettingValue → List ℕ
ions_of setting = range_with_len 0 (ion_count setting)

abbrev pub places_of : SettingValue → List ℕ
places_of setting = range_with_len 0 (place_count setting.trap)

abbrev pub zones_of : SettingValue → List ℕ
zones_of setting = range_with_len 0 (length setting.trap.zones)

abbrev pub junctions_of : SettingValue → List ℕ
junctions_of setting = range_with_len 0 (length setting.trap.junctions)

-- the numbers from low up to high, without high
abbrev pub between : ℕ → ℕ → List ℕ
between low high = range_with_len low (high - low)

-- the pairs i < j of so many ions, in order
abbrev pub pairs_of : ℕ → List Cell
pairs_of ions = flat_map (λ i. map (cell i) (between (i + 1) ions)) (range_with_len 0 ions)

-- ---- operations

-- the operations that are no barrier, ascending
abbrev pub performed : CircuitValue → List ℕ
performed circuit = filter (is_performed circuit) (range_with_len 0 (length circuit.ops))

-- the zones that are able to perform an operation, ascending
abbrev pub able_zones : SettingValue → ℕ → List ℕ
able_zones setting g = filter (λ z. is_able_for setting z g) (zones_of setting)

-- the operations that a zone is able to perform, ascending
abbrev pub able_ops : SettingValue → ℕ → List ℕ
able_ops setting z = filter (is_able_for setting z) (performed setting.circuit)

-- each operation with each zone that is able to perform it
abbrev pub acts_of : SettingValue → List Cell
acts_of setting = flat_map (λ g. map (cell g) (able_zones setting g)) (performed setting.circuit)

-- the operation acts on the ion
abbrev pub is_ion_of : SettingValue → ℕ → ℕ → Bool
is_ion_of setting g i =
    option_map_or (λ (op : Op). list_any (λ qubit. i == (ion_of setting.placement qubit).0) (qubits_of op))
    (slice_get setting.circuit.ops g) false

-- the ions of an operation, ascending
abbrev pub ions_of_op : SettingValue → ℕ → List ℕ
ions_of_op setting g = filter (is_ion_of setting g) (ions_of setting)

-- the operations that have to come before an operation, ascending
abbrev pub forced_before : CircuitValue → ℕ → List ℕ
forced_before circuit g = filter (λ h. is_forced circuit h g) (performed circuit)

-- each operation with each one that has to come before it
abbrev pub orders_of : CircuitValue → List Cell
orders_of circuit = flat_map (λ g. map (cell g) (forced_before circuit g)) (performed circuit)

-- ---- channels

abbrev pub numbered_from : ℕ → List Channel → List NumberedChannel
numbered_from number [] = []
numbered_from number (channel ∷ channels) =
    record { number = number; channel = channel } ∷ numbered_from (number + 1) channels

abbrev pub numbered_channels : SettingValue → List NumberedChannel
numbered_channels setting = numbered_from 0 (channels_of setting.trap)

abbrev pub begins_at : ℕ → Channel → Bool
begins_at p channel = channel.from.0 == p

abbrev pub ends_at : ℕ → Channel → Bool
ends_at p channel = channel.to.0 == p

abbrev pub touches : ℕ → Channel → Bool
touches p channel = begins_at p channel || ends_at p channel

-- the channels that pass a test
abbrev pub channels_where : (Channel → Bool) → SettingValue → List NumberedChannel
channels_where test setting = filter (λ (c : NumberedChannel). test c.channel) (numbered_channels setting)

-- their numbers
abbrev pub numbers_where : (Channel → Bool) → SettingValue → List ℕ
numbers_where test setting = map (λ (c : NumberedChannel). c.number) (channels_where test setting)

abbrev pub into_slot : SettingValue → Channel → Bool
into_slot setting channel = not (is_zone setting.trap channel.to.0)

abbrev pub from_slot : SettingValue → Channel → Bool
from_slot setting channel = not (is_zone setting.trap channel.from.0)

abbrev pub is_split_channel : Channel → Bool
is_split_channel channel = splits channel.kind

abbrev pub is_merge_channel : Channel → Bool
is_merge_channel channel = merges channel.kind

-- ---- the start

abbrev pub is_there : ℕ → List Ion → Bool
is_there i ions = list_any (λ (ion : Ion). ion.0 == i) ions

-- ion i is before ion j in the list
abbrev pub is_before : ℕ → ℕ → List Ion → Bool
is_before i j [] = false
is_before i j (ion ∷ ions) = if ion.0 == i then is_there j ions else is_before i j ions

-- ion i begins at place p
abbrev pub starts_at : SettingValue → ℕ → ℕ → Bool
starts_at setting i p =
    option_map_or (is_there i) (slice_get (start_of setting.trap setting.placement) p) false

-- both ions begin in one place, i nearer to end a
abbrev pub starts_before : SettingValue → ℕ → ℕ → Bool
starts_before setting i j = list_any (is_before i j) (start_of setting.trap setting.placement)
