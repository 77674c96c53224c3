-- What all parts of the encoding say of the facts: of the start, of each step, and of the goal.
use Rattle.std.specs.Prelude.{◌≡◌, ℕ, suc, ◌<◌, ◌≤◌, true}
use Rattle.trap_parts.specs.Build.{IsTrap}
use Rattle.circuit_core.specs.Circuit.{IsCircuit}
use Rattle.step_rules.specs.Setting.{SettingValue}
use Rattle.step_rules.specs.Placement.{IsPlacement}
use Rattle.step_vars.specs.Items.{goal_item}
use Rattle.step_vars.specs.Families.{goal_needs_all}
use Rattle.step_vars.specs.Encoding.{place_bounds, passing_clauses, activity_bounds, order_clauses, operation_clauses, start_clauses}
use Rattle.step_facts.specs.Facts.{Facts, AllHold, AreBounded}
use Rattle.step_facts.specs.Properties.{StartPlaces, StartOrders, StartUndone, OnePlace, FewIons, PassersWereAtSource, PassersAreAtTarget, PassersUseChannel, StaysOrLeaves, StayedOrEntered, UsePassesSome, UseNeedsEmptySlot, UseEmptiesSlot, SplitsTakeTheFront, OneActivityEach, OneCrossingEach, SwappedAreInZone, SwappedAreNeighbours, SwapsTurn, StayersKeepOrder, PassersKeepOrder, MergesAtTheEnd, IonsAreInZone, PerformedOnce, DoneByPerforming, DoneInOrder, GoalNeedsAll}

-- the trap, the circuit and the placement are sound
pub record IsSetting (setting : SettingValue) : Type 0 where
  pub trap : IsTrap setting.trap
  pub circuit : IsCircuit setting.circuit
  pub placement : IsPlacement setting.trap setting.circuit setting.placement

-- ---- in words of the trap and the circuit

pub record IsStart (setting : SettingValue) (facts : Facts) : Type 0 where
  pub places : StartPlaces setting facts
  pub orders : StartOrders setting facts
  pub undone : StartUndone setting facts

-- the properties of a step, family by family
pub record IsStep (setting : SettingValue) (facts : Facts) (r t : ℕ) : Type 0 where
  pub one_place : OnePlace setting facts t
  pub few_ions : FewIons setting facts t
  pub from_source : PassersWereAtSource setting facts r t
  pub to_target : PassersAreAtTarget setting facts r t
  pub use_channel : PassersUseChannel setting facts r t
  pub stays : StaysOrLeaves setting facts r t
  pub stayed : StayedOrEntered setting facts r t
  pub some_passes : UsePassesSome setting facts r t
  pub empty_slot : UseNeedsEmptySlot setting facts r t
  pub whole_chain : UseEmptiesSlot setting facts r t
  pub front : SplitsTakeTheFront setting facts r t
  pub one_activity : OneActivityEach setting facts t
  pub one_crossing : OneCrossingEach setting facts t
  pub swap_in_zone : SwappedAreInZone setting facts r t
  pub swap_neighbours : SwappedAreNeighbours setting facts r t
  pub swap_turns : SwapsTurn setting facts r t
  pub stayers : StayersKeepOrder setting facts r t
  pub passers : PassersKeepOrder setting facts r t
  pub merges : MergesAtTheEnd setting facts r t
  pub ions_in_zone : IonsAreInZone setting facts r t
  pub once : PerformedOnce setting facts r t
  pub done : DoneByPerforming setting facts r t
  pub in_order : DoneInOrder setting facts r t

-- the properties of the parts 0 to t, and the goal of t
pub record IsRun (setting : SettingValue) (facts : Facts) (t : ℕ) : Type 0 where
  pub start : IsStart setting facts
  pub steps : (r : ℕ) → r < t → IsStep setting facts r (suc r)
  pub goals : (s : ℕ) → s ≤ t → GoalNeedsAll setting facts s
  pub goal : facts (goal_item t) ≡ true

-- ---- in clauses and bounds

pub record StepHolds (setting : SettingValue) (facts : Facts) (r t : ℕ) : Type 0 where
  pub places : AreBounded facts (place_bounds setting t)
  pub passing : AllHold facts (passing_clauses setting r t)
  pub activities : AreBounded facts (activity_bounds setting t)
  pub orders : AllHold facts (order_clauses setting r t)
  pub operations : AllHold facts (operation_clauses setting r t)

-- all families and bounds of the parts 0 to t, and the goal of t
pub record PartsHold (setting : SettingValue) (facts : Facts) (t : ℕ) : Type 0 where
  pub start : AllHold facts (start_clauses setting)
  pub steps : (r : ℕ) → r < t → StepHolds setting facts r (suc r)
  pub goals : (s : ℕ) → s ≤ t → AllHold facts (goal_needs_all setting s)
  pub goal : facts (goal_item t) ≡ true
