-- Facts that agree with a configuration, with a step, and with a whole schedule.
use Rattle.std.specs.Prelude.{◌≡◌, ℕ, suc, ◌<◌, ◌≤◌, false, IsTrue, ◌&&◌, All, List, [], ◌∷◌}
use Rattle.std.specs.List.{list_any}
use Rattle.qc_base.specs.declared.ids.Ion.{Ion}
use Rattle.trap_model.specs.Trap.{place_count}
use Rattle.trap_model.specs.declared.channel.Channel.{Channel}
use Rattle.ion_chain.specs.Transfer.{list_at}
use Rattle.step_rules.specs.declared.action.Action.{Action}
use Rattle.step_rules.specs.Setting.{SettingValue}
use Rattle.circuit_core.specs.Order.{is_performed}
use Rattle.step_rules.specs.Config.{IsWithinLimits, all_ions}
use Rattle.step_rules.specs.Play.{is_done}
use Rattle.step_vars.specs.Items.{at_item, ord_item, use_item, leave_item, done_item}
use Rattle.step_vars.specs.Lists.{ion_count, is_there, is_before}
use Rattle.step_facts.specs.Facts.{Facts, IsChannel}
use Rattle.step_facts.specs.Activities.{Activity, IsActivity, item_of}
use Rattle.step_facts.specs.OfSchedule.{does, config_at, step_at}

-- no ion is twice in the list
abbrev pub AreDistinct : List Ion → Type 0
AreDistinct [] = Unit {0}
AreDistinct (ion ∷ ions) = (is_there ion.0 ions ≡ false) × AreDistinct ions

-- no place is above its limit, no ion is twice in the configuration, and each is one of the circuit's
pub record IsSound (setting : SettingValue) (config : List (List Ion)) : Type 0 where
  pub limits : IsWithinLimits setting.trap config
  pub distinct : AreDistinct (all_ions config)
  pub known : All (λ (ion : Ion). ion.0 < ion_count setting) (all_ions config)

-- The facts of time t say where the ions are, and in which order.
pub record Agrees (setting : SettingValue) (facts : Facts) (t : ℕ) (config : List (List Ion)) : Type 0 where
  pub places : (i p : ℕ) → i < ion_count setting → p < place_count setting.trap
      → facts (at_item i p t) ≡ is_there i (list_at config p)
  pub orders : (i j p : ℕ) → i < j → j < ion_count setting → p < place_count setting.trap
      → IsTrue (is_there i (list_at config p)) → IsTrue (is_there j (list_at config p))
      → facts (ord_item i j t) ≡ is_before i j (list_at config p)

-- The facts of step t say which activities happen in a step that begins with the configuration.
pub record AgreesInStep (setting : SettingValue) (facts : Facts) (t : ℕ) (config : List (List Ion))
    (step : List Action) : Type 0 where
  pub activities : (a : Activity) → IsActivity setting a
      → facts (item_of t a) ≡ list_any (does setting.trap config a) step

-- In step t the ions pass that were where a used channel begins and are where it ends.
pub record AgreesOnPassers (setting : SettingValue) (facts : Facts) (t : ℕ)
    (before now : List (List Ion)) : Type 0 where
  pub passers : (i c : ℕ) (channel : Channel) → i < ion_count setting → IsChannel setting c channel
      → facts (leave_item i c t)
      ≡ (facts (use_item c t)
      && (is_there i (list_at before channel.from.0) && is_there i (list_at now channel.to.0)))

-- The facts of time t say which operations these steps performed.
pub record AgreesOnDone (setting : SettingValue) (facts : Facts) (t : ℕ) (steps : List (List Action)) : Type 0 where
  pub done : (g : ℕ) → IsTrue (is_performed setting.circuit g) → facts (done_item g t) ≡ is_done steps g

-- The facts say what the schedule does up to a time: where the ions are and in which order, and what happens
-- in each step.
pub record Describes (setting : SettingValue) (facts : Facts) (steps : List (List Action)) (last : ℕ) : Type 0 where
  pub positions : (t : ℕ) → t ≤ last → Agrees setting facts t (config_at setting steps t)
  pub activities : (r : ℕ) → r < last
      → AgreesInStep setting facts (suc r) (config_at setting steps r) (step_at steps (suc r))
