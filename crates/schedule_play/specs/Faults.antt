-- The first fault of a schedule.
use Rattle.std.specs.Prelude.{◌≡◌, ℕ, ◌+◌, ◌<◌, ◌≤◌, ◌⊎◌, true, IsTrue, List, take, Some, slice_get}
use Rattle.qc_base.specs.declared.ids.Ion.{Ion}
use Rattle.trap_parts.specs.Parts.{TrapValue}
use Rattle.circuit_core.specs.Circuit.{CircuitValue}
use Rattle.circuit_core.specs.Order.{Forced, is_performed}
use Rattle.step_rules.specs.declared.action.Action.{Action}
use Rattle.step_rules.specs.declared.action.Rule.{Rule}
use Rattle.step_rules.specs.Placement.{start_of}
use Rattle.step_rules.specs.Setting.{SettingValue}
use Rattle.step_rules.specs.Guards.{guards, first_broken}
use Rattle.step_rules.specs.Tight.{Meet}
use Rattle.step_rules.specs.Play.{after_steps, performs, Plays}
use Rattle.schedule_play.specs.declared.fault.PlayFault.{PlayFault}
use Rattle.schedule_play.specs.declared.fault.PlayFault.TheVariants as faults

-- ---- the places of a schedule: a step and an action of it, both counted from 0

-- the action at that place
pub record IsAt (steps : List (List Action)) (time place : ℕ) (action : Action) : Type 0 where
  pub step : List Action
  pub at_time : slice_get steps time ≡ Some step
  pub in_step : slice_get step place ≡ Some action

-- the action at that place performs the operation
pub record PerformsAt (steps : List (List Action)) (op time place : ℕ) : Type 0 where
  pub action : Action
  pub there : IsAt steps time place action
  pub is : performs op action ≡ true

-- the first place is in an earlier step than the second, or earlier in the same step
abbrev pub ComesBefore : ℕ → ℕ → ℕ → ℕ → Type 0
ComesBefore time place other_time other_place =
    (time < other_time) ⊎ ((time ≡ other_time) × (place < other_place))

-- where the ions are when that step begins
abbrev pub config_before : SettingValue → List (List Action) → ℕ → List (List Ion)
config_before setting steps time =
    after_steps setting.trap (start_of setting.trap setting.placement) (take time steps)

-- ---- what is wrong with the action at a place, each cause by itself

-- the rule is that of the first guard that fails when the step begins
pub record Breaks (setting : SettingValue) (steps : List (List Action)) (time place : ℕ)
    (rule : Rule) : Type 0 where
  pub action : Action
  pub there : IsAt steps time place action
  pub broken : first_broken (guards setting (config_before setting steps time) action) ≡ Some rule

-- the action at that place of the step works on a spot that this one works on
pub record SharesSpot (trap : TrapValue) (steps : List (List Action)) (time place : ℕ)
    (action : Action) : Type 0 where
  pub other : Action
  pub there : IsAt steps time place other
  pub meet : Meet trap other action

-- the action of that number, from 1, is the first of the step that works on a spot of this one, and comes before
-- it
pub record IsShared (trap : TrapValue) (steps : List (List Action)) (time place number : ℕ) : Type 0 where
  pub action : Action
  pub there : IsAt steps time place action
  pub first : ℕ
  pub number_is : number ≡ first + 1
  pub before : first < place
  pub meets : SharesSpot trap steps time first action
  pub least : (earlier : ℕ) → earlier < first → SharesSpot trap steps time earlier action → ⊥

-- an operation that has to come before that one is not performed in a step before this one
pub record IsOwedAt (setting : SettingValue) (steps : List (List Action)) (time op needs : ℕ) : Type 0 where
  pub performed : IsTrue (is_performed setting.circuit needs)
  pub forced : Forced setting.circuit needs op
  pub undone : (earlier place : ℕ) → earlier < time → PerformsAt steps needs earlier place → ⊥

-- the action performs that operation, and the other is the least that is owed
pub record IsEarly (setting : SettingValue) (steps : List (List Action))
    (time place op needs : ℕ) : Type 0 where
  pub here : PerformsAt steps op time place
  pub owed : IsOwedAt setting steps time op needs
  pub least : (other : ℕ) → IsOwedAt setting steps time op other → needs ≤ other

-- the action performs an operation that is performed before
pub record IsRepeated (steps : List (List Action)) (time place op : ℕ) : Type 0 where
  pub here : PerformsAt steps op time place
  pub earlier_time : ℕ
  pub earlier_place : ℕ
  pub before : ComesBefore earlier_time earlier_place time place
  pub done : PerformsAt steps op earlier_time earlier_place

-- the fault says what is wrong with the action at that place; it counts steps and actions from 1
abbrev pub Causes : SettingValue → List (List Action) → ℕ → ℕ → PlayFault → Type 0
Causes setting steps time place (faults.Broken step number rule) =
    (step ≡ time + 1) × (number ≡ place + 1) × Breaks setting steps time place rule
Causes setting steps time place (faults.Shared step first second) =
    (step ≡ time + 1) × (second ≡ place + 1) × IsShared setting.trap steps time place first
Causes setting steps time place (faults.Early step op needs) =
    (step ≡ time + 1) × IsEarly setting steps time place op.0 needs.0
Causes setting steps time place (faults.Twice step op) = (step ≡ time + 1) × IsRepeated steps time place op.0
Causes setting steps time place (faults.Missing op) = ⊥
Causes setting steps time place faults.NoMemory = ⊥

-- the order of the causes of one action
abbrev pub rank : PlayFault → ℕ
rank (faults.Broken step number rule) = 0
rank (faults.Shared step first second) = 1
rank (faults.Early step op needs) = 2
rank (faults.Twice step op) = 3
rank (faults.Missing op) = 4
rank faults.NoMemory = 5

-- ---- the first fault

-- a cause at some place, the first in the order there, where no place before has any
pub record IsFirst (setting : SettingValue) (steps : List (List Action)) (fault : PlayFault) : Type 0 where
  pub time : ℕ
  pub place : ℕ
  pub cause : Causes setting steps time place fault
  pub first : (other : PlayFault) → Causes setting steps time place other → rank fault ≤ rank other
  pub none_before : (t p : ℕ) (other : PlayFault) → ComesBefore t p time place
      → Causes setting steps t p other → ⊥

-- an action has to perform the operation, and none does
pub record IsLeftOut (circuit : CircuitValue) (steps : List (List Action)) (op : ℕ) : Type 0 where
  pub performed : IsTrue (is_performed circuit op)
  pub undone : (time place : ℕ) → PerformsAt steps op time place → ⊥

-- no place has a cause, and the operation is the least that is left out
pub record LeavesOut (setting : SettingValue) (steps : List (List Action)) (op : ℕ) : Type 0 where
  pub none : (time place : ℕ) (fault : PlayFault) → Causes setting steps time place fault → ⊥
  pub left_out : IsLeftOut setting.circuit steps op
  pub least : (other : ℕ) → IsLeftOut setting.circuit steps other → op ≤ other

-- the first fault of the schedule: what is wrong with the first action that has a cause, or else an operation that
-- is missing
abbrev pub IsFault : SettingValue → List (List Action) → PlayFault → Type 0
IsFault setting steps (faults.Missing op) = LeavesOut setting steps op.0
IsFault setting steps fault = IsFirst setting steps fault

-- why no configuration is answered; out of memory says nothing
abbrev pub Explains : SettingValue → List (List Action) → PlayFault → Type 0
Explains setting steps faults.NoMemory = Unit {0}
Explains setting steps fault = IsFault setting steps fault

-- the schedule plays, or it has a fault
abbrev pub IsJudged : SettingValue → List (List Action) → Type 0
IsJudged setting steps = Plays setting steps ⊎ ((fault : PlayFault) × IsFault setting steps fault)
