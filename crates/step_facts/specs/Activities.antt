-- What can happen in a step.
use Rattle.std.specs.Prelude.{ℕ, ◌<◌, ◌==◌, Bool, IsTrue, List, ◌++◌, length, map}
use Rattle.std.specs.List.{flat_map}
use Rattle.circuit_core.specs.Order.{is_performed}
use Rattle.trap_model.specs.declared.channel.Channel.{Channel}
use Rattle.step_rules.specs.Setting.{SettingValue}
use Rattle.step_rules.specs.Guards.{is_able_for}
use Rattle.step_vars.specs.declared.cells.Cell.{Cell}
use Rattle.step_vars.specs.declared.item.Item.{Item}
use Rattle.step_vars.specs.Items.{use_item, swap_item, act_item}
use Rattle.step_vars.specs.declared.channel_test.NumberedChannel.{NumberedChannel}
use Rattle.step_vars.specs.Lists.{ion_count, zones_of, numbered_channels, able_ops, touches}
use Rattle.step_vars.specs.Families.{pairs_in}
use Rattle.step_facts.specs.Facts.{IsChannel}

-- ions pass through the channel of a number, the ions i < j of a zone change places, a zone performs an
-- operation
pub data Activity : Type 0 where
  passage : ℕ → Channel → Activity
  exchange : ℕ → ℕ → ℕ → Activity
  operation : ℕ → ℕ → Activity

-- it is one of the trap and the circuit
abbrev pub IsActivity : SettingValue → Activity → Type 0
IsActivity setting (passage c channel) = IsChannel setting c channel
IsActivity setting (exchange i j z) = (i < j) × (j < ion_count setting) × (z < length setting.trap.zones)
IsActivity setting (operation g z) = IsTrue (is_performed setting.circuit g)
    × IsTrue (is_able_for setting z g) × (z < length setting.trap.zones)

-- it happens at the place
abbrev pub works_at : ℕ → Activity → Bool
works_at p (passage c channel) = touches p channel
works_at p (exchange i j z) = z == p
works_at p (operation g z) = z == p

-- the item that says that it happens in step t
abbrev pub item_of : ℕ → Activity → Item
item_of t (passage c channel) = use_item c t
item_of t (exchange i j z) = swap_item i j z t
item_of t (operation g z) = act_item g z t

-- all of them: the channels in order, then swaps by zone, then operations by zone
abbrev pub passages_of : SettingValue → List Activity
passages_of setting = map (λ (c : NumberedChannel). passage c.number c.channel) (numbered_channels setting)

abbrev pub exchanges_of : SettingValue → List Activity
exchanges_of setting =
    flat_map (λ z. map (λ (pair : Cell). exchange pair.row pair.col z) (pairs_in setting)) (zones_of setting)

abbrev pub operations_of : SettingValue → List Activity
operations_of setting = flat_map (λ z. map (λ g. operation g z) (able_ops setting z)) (zones_of setting)

abbrev pub activities_of : SettingValue → List Activity
activities_of setting = passages_of setting ++ exchanges_of setting ++ operations_of setting
