-- What the simulator finds wrong with an action, by the steps and actions before it. Working notions of the private
-- functions.
use Rattle.std.specs.Prelude.{◌≡◌, ℕ, ◌+◌, ◌≤◌, Bool, true, false, IsTrue, List, [], ◌∷◌, ◌++◌, length, take, All, Some, slice_get}
use Rattle.qc_base.specs.declared.ids.Ion.{Ion}
use Rattle.trap_parts.specs.Parts.{TrapValue}
use Rattle.circuit_core.specs.Order.{Forced, is_performed}
use Rattle.step_rules.specs.declared.action.Action.{Action}
use Rattle.step_rules.specs.Placement.{start_of}
use Rattle.step_rules.specs.Setting.{SettingValue}
use Rattle.step_rules.specs.Guards.{Passes, guards, first_broken}
use Rattle.step_rules.specs.Tight.{Meet}
use Rattle.step_rules.specs.Steps.{AreApart}
use Rattle.step_rules.specs.Play.{after_steps, performs, is_done}
use Rattle.schedule_play.specs.declared.fault.PlayFault.{PlayFault}
use Rattle.schedule_play.specs.declared.fault.PlayFault.TheVariants as faults

-- what was before an action: the steps before its own, and the actions of its own step before it
pub record Before : Type 0 where
  pub steps : List (List Action)
  pub actions : List Action

-- these steps, and these actions of the next
abbrev pub before_of : List (List Action) → List Action → Before
before_of steps actions = record { steps = steps; actions = actions }

-- where the ions are when the step of the action begins
abbrev pub config_at : SettingValue → Before → List (List Ion)
config_at setting before = after_steps setting.trap (start_of setting.trap setting.placement) before.steps

-- an operation that has to come before that one is not performed in an earlier step
pub record Owes (setting : SettingValue) (before : Before) (op needs : ℕ) : Type 0 where
  pub performed : IsTrue (is_performed setting.circuit needs)
  pub forced : Forced setting.circuit needs op
  pub undone : is_done before.steps needs ≡ false

-- the operation was performed before
abbrev pub was_done : Before → ℕ → Bool
was_done before op = is_done (before.steps ++ before.actions ∷ []) op

-- nothing is wrong with the action after what was before
pub record IsWell (setting : SettingValue) (before : Before) (action : Action) : Type 0 where
  pub passes : Passes setting (config_at setting before) action
  pub apart : All (λ other. AreApart setting.trap other action) before.actions
  pub none_owed : (op needs : ℕ) → performs op action ≡ true → Owes setting before op needs → ⊥
  pub first : (op : ℕ) → performs op action ≡ true → was_done before op ≡ false

-- nothing is wrong with any action of these steps
abbrev pub GoWell : SettingValue → List (List Action) → Type 0
GoWell setting steps = (time place : ℕ) (step : List Action) (action : Action)
    → slice_get steps time ≡ Some step → slice_get step place ≡ Some action
    → IsWell setting (before_of (take time steps) (take place step)) action

-- ---- what is wrong with an action: the first of four

-- steps and actions are counted from 1
abbrev pub AreCounts : Before → ℕ → ℕ → Type 0
AreCounts before step action = (step ≡ length before.steps + 1) × (action ≡ length before.actions + 1)

-- the action passes its guards, and works on nothing that the actions before it in its step work on
pub record Fits (setting : SettingValue) (before : Before) (action : Action) : Type 0 where
  pub passes : Passes setting (config_at setting before) action
  pub apart : All (λ other. AreApart setting.trap other action) before.actions

-- the first of the actions that works on something that this one works on, counted from 1
pub record MeetsFirst (trap : TrapValue) (actions : List Action) (action : Action) (number : ℕ) : Type 0 where
  pub place : ℕ
  pub other : Action
  pub number_is : number ≡ place + 1
  pub there : slice_get actions place ≡ Some other
  pub meet : Meet trap other action
  pub apart : All (λ earlier. AreApart trap earlier action) (take place actions)

-- the least operation that is owed
pub record OwesFirst (setting : SettingValue) (before : Before) (op needs : ℕ) : Type 0 where
  pub owed : Owes setting before op needs
  pub least : (other : ℕ) → Owes setting before op other → needs ≤ other

-- the action breaks a rule; or it shares something with an earlier one of its step; or it comes too early; or it was
-- done before
abbrev pub Offends : SettingValue → Before → Action → PlayFault → Type 0
Offends setting before action (faults.Broken step number rule) =
    AreCounts before step number × (first_broken (guards setting (config_at setting before) action) ≡ Some rule)
Offends setting before action (faults.Shared step first second) =
    AreCounts before step second × Passes setting (config_at setting before) action
    × MeetsFirst setting.trap before.actions action first
Offends setting before action (faults.Early step op needs) =
    (step ≡ length before.steps + 1) × Fits setting before action × (performs op.0 action ≡ true)
    × OwesFirst setting before op.0 needs.0
Offends setting before action (faults.Twice step op) =
    (step ≡ length before.steps + 1) × Fits setting before action × (performs op.0 action ≡ true)
    × ((needs : ℕ) → Owes setting before op.0 needs → ⊥) × (was_done before op.0 ≡ true)
Offends setting before action (faults.Missing op) = ⊥
Offends setting before action faults.NoMemory = ⊥
