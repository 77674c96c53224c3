-- The guards of an action, in their order. Each speaks of the trap, the circuit, the placement and the places that
-- the action works on.
use Rattle.std.specs.Prelude.{◌≡◌, ℕ, ◌+◌, ◌==◌, nat_le, nat_lt, Bool, true, false, not, ◌&&◌, if◌then◌else◌, List, [], ◌∷◌, length, Option, Some, None, is_some, slice_get, Result, Ok, Err}
use Rattle.std.specs.List.{list_all, list_any}
use Rattle.std.specs.Option.{option_and_then, option_map_or}
use Rattle.qc_base.specs.declared.ids.Qubit.{Qubit}
use Rattle.qc_base.specs.declared.ids.Ion.{Ion}
use Rattle.circuit_core.specs.declared.op.Op.{Op}
use Rattle.circuit_core.specs.Op.{qubits_of}
use Rattle.circuit_core.specs.Order.{is_performed}
use Rattle.trap_parts.specs.Parts.{TrapValue}
use Rattle.trap_model.specs.Trap.{place_count, is_zone, is_able}
use Rattle.trap_model.specs.Channels.{split_channel, move_channel, cross_channel, merge_channel}
use Rattle.trap_model.specs.declared.channel.Channel.{Channel}
use Rattle.ion_chain.specs.Transfer.{list_at}
use Rattle.step_rules.specs.declared.action.Action.{Action}
use Rattle.step_rules.specs.declared.action.Action.TheVariants as actions
use Rattle.step_rules.specs.declared.action.Rule.{Rule}
use Rattle.step_rules.specs.declared.action.Rule.TheVariants.{NoPlace, NoJoin, Index, Load, Occupied, Empty, Full, NotOp, NotAble, Absent}
use Rattle.step_rules.specs.Placement.{ion_of}
use Rattle.step_rules.specs.Setting.{SettingValue, need_of}
use Rattle.step_rules.specs.ActionChannel.{source, target, target_limit}

-- whether an action passes, and the rule that is broken where it doesn't
pub record Guard : Type 0 where
  pub passes : Bool
  pub rule : Rule

abbrev pub guard : Bool → Rule → Guard
guard passes rule = record { passes = passes; rule = rule }

-- the rule of the first guard that fails
abbrev pub first_broken : List Guard → Option Rule
first_broken [] = None
first_broken (first ∷ rest) = if first.passes then first_broken rest else Some first.rule

-- the number is a slot's
abbrev pub is_slot : TrapValue → ℕ → Bool
is_slot trap place = not (is_zone trap place) && nat_lt place (place_count trap)

-- the number is a junction's
abbrev pub is_junction : TrapValue → ℕ → Bool
is_junction trap junction = nat_lt junction (length trap.junctions)

abbrev pub is_empty : List Ion → Bool
is_empty [] = true
is_empty (ion ∷ ions) = false

-- at least one, and no more than there are
abbrev pub is_count_of : ℕ → List Ion → Bool
is_count_of count ions = nat_le 1 count && nat_le count (length ions)

-- the zone has the ability that the operation of this number needs
abbrev pub is_able_for : SettingValue → ℕ → ℕ → Bool
is_able_for setting zone number =
    option_map_or (is_able setting.trap zone)
    (option_and_then need_of (slice_get setting.circuit.ops number)) false

-- the ion of the qubit is among these
abbrev pub is_among : List (List Qubit) → List Ion → Qubit → Bool
is_among placement ions qubit = list_any (λ (ion : Ion). ion.0 == (ion_of placement qubit).0) ions

-- all ions of the operation are among these
abbrev pub are_among : SettingValue → List Ion → ℕ → Bool
are_among setting ions number =
    option_map_or (λ (op : Op). list_all (is_among setting.placement ions) (qubits_of op))
    (slice_get setting.circuit.ops number) false

-- the zone is there and its end is joined; some of its ions split off, no more than the slot's load, into an empty
-- slot
abbrev pub split_guards : TrapValue → List (List Ion) → ℕ → ℕ → Option Channel → List Guard
split_guards trap config zone count channel =
    guard (is_zone trap zone) NoPlace
    ∷ guard (is_some channel) NoJoin
    ∷ guard (is_count_of count (source config channel)) Index
    ∷ guard (nat_le count (target_limit trap channel)) Load
    ∷ guard (is_empty (target config channel)) Occupied
    ∷ []

-- the slots are there and are neighbours; a chain goes into an empty one
abbrev pub move_guards : TrapValue → List (List Ion) → ℕ → ℕ → Option Channel → List Guard
move_guards trap config from to channel =
    guard (is_slot trap from && is_slot trap to) NoPlace
    ∷ guard (is_some channel) NoJoin
    ∷ guard (not (is_empty (source config channel))) Empty
    ∷ guard (is_empty (target config channel)) Occupied
    ∷ []

-- the junction and the slots are there, and the slots are two of its arms; a chain goes into an empty one, no longer
-- than that one's load
abbrev pub cross_guards : TrapValue → List (List Ion) → ℕ → ℕ → ℕ → Option Channel → List Guard
cross_guards trap config junction from to channel =
    guard (is_junction trap junction && (is_slot trap from && is_slot trap to)) NoPlace
    ∷ guard (is_some channel) NoJoin
    ∷ guard (not (is_empty (source config channel))) Empty
    ∷ guard (is_empty (target config channel)) Occupied
    ∷ guard (nat_le (length (source config channel)) (target_limit trap channel)) Load
    ∷ []

-- the zone is there and its end is joined; the slot's chain and the zone's make no more than the zone's capacity
abbrev pub merge_guards : TrapValue → List (List Ion) → ℕ → Option Channel → List Guard
merge_guards trap config zone channel =
    guard (is_zone trap zone) NoPlace
    ∷ guard (is_some channel) NoJoin
    ∷ guard (not (is_empty (source config channel))) Empty
    ∷ guard (nat_le (length (source config channel) + length (target config channel))
    (target_limit trap channel)) Full
    ∷ []

-- the zone is there, and there are two neighbours at the index
abbrev pub swap_guards : TrapValue → List (List Ion) → ℕ → ℕ → List Guard
swap_guards trap config zone index =
    guard (is_zone trap zone) NoPlace
    ∷ guard (nat_lt (index + 1) (length (list_at config zone))) Index
    ∷ []

-- the zone is there and able to perform the operation, whose ions are in it
abbrev pub op_guards : SettingValue → List (List Ion) → ℕ → ℕ → List Guard
op_guards setting config zone op =
    guard (is_zone setting.trap zone) NoPlace
    ∷ guard (is_performed setting.circuit op) NotOp
    ∷ guard (is_able_for setting zone op) NotAble
    ∷ guard (are_among setting (list_at config zone) op) Absent
    ∷ []

-- the guards that speak of the trap and the configuration alone, which are those of all actions but operations
abbrev pub transport_guards : TrapValue → List (List Ion) → Action → List Guard
transport_guards trap config (actions.Split zone end count) =
    split_guards trap config zone.0 count (split_channel trap zone.0 end)
transport_guards trap config (actions.Move from to) =
    move_guards trap config from.0 to.0 (move_channel trap from.0 to.0)
transport_guards trap config (actions.Cross junction from to) =
    cross_guards trap config junction.0 from.0 to.0 (cross_channel trap junction.0 from.0 to.0)
transport_guards trap config (actions.Merge zone end) =
    merge_guards trap config zone.0 (merge_channel trap zone.0 end)
transport_guards trap config (actions.Swap zone index) = swap_guards trap config zone.0 index
transport_guards trap config (actions.Op zone op) = []

abbrev pub guards : SettingValue → List (List Ion) → Action → List Guard
guards setting config (actions.Op zone op) = op_guards setting config zone.0 op.0
guards setting config action = transport_guards setting.trap config action

-- no guard of the action fails
abbrev pub Passes : SettingValue → List (List Ion) → Action → Type 0
Passes setting config action = first_broken (guards setting config action) ≡ None

-- no guard of the trap and the configuration alone fails
abbrev pub PassesTransport : TrapValue → List (List Ion) → Action → Type 0
PassesTransport trap config action = first_broken (transport_guards trap config action) ≡ None

-- Ok where no guard fails, else the rule of the first that does
abbrev pub Answers : Result (Unit {0}) Rule → List Guard → Type 0
Answers (Ok done) guards = first_broken guards ≡ None
Answers (Err rule) guards = first_broken guards ≡ Some rule
