-- What a list of actions has to meet, and what its tight schedule is.
use Rattle.std.specs.Prelude.{◌≡◌, ℕ, ◌==◌, ◌<◌, if◌then◌else◌, All, List, [], ◌∷◌, length, slice_get, Some}
use Rattle.step_rules.specs.declared.action.Action.{Action}
use Rattle.step_rules.specs.Placement.{start_of}
use Rattle.step_rules.specs.Setting.{SettingValue}
use Rattle.step_rules.specs.Play.{AreInOrder, AreLegal, one_at_a_time}
use Rattle.step_rules.specs.Tight.{Conflict}

-- Played one after another from the placement, each action passes its guards, and forced operations are in order.
pub record IsSerial (setting : SettingValue) (actions : List Action) : Type 0 where
  pub legal : AreLegal setting (start_of setting.trap setting.placement) (one_at_a_time actions)
  pub in_order : AreInOrder setting.circuit (one_at_a_time actions)

-- the actions whose step has that number, in the list's order
abbrev pub with_time : ℕ → List ℕ → List Action → List Action
with_time time [] actions = []
with_time time (first ∷ times) [] = []
with_time time (first ∷ times) (action ∷ actions) =
    if first == time then action ∷ with_time time times actions else with_time time times actions

-- The steps have the actions of the list, each once: each action has a step, and inside a step the list's order
-- is kept.
pub record AreSpread (actions : List Action) (times : List ℕ) (steps : List (List Action)) : Type 0 where
  pub len : length times ≡ length actions
  pub within : All (λ time. time < length steps) times
  pub each : (time : ℕ) (step : List Action) → slice_get steps time ≡ Some step → step ≡ with_time time times actions

-- of two actions of the list that conflict, the earlier one is in an earlier step
abbrev pub KeepOrder : SettingValue → List Action → List ℕ → Type 0
KeepOrder setting actions times = (i j : ℕ) (first second : Action) (s t : ℕ) → i < j
    → slice_get actions i ≡ Some first → slice_get actions j ≡ Some second → slice_get times i ≡ Some s
    → slice_get times j ≡ Some t
    → Conflict setting.trap setting.circuit first second → s < t

-- The steps are the list with its actions moved into common steps, and pairs that conflict keep their order by step.
pub record IsRearranged (setting : SettingValue) (actions : List Action) (steps : List (List Action)) : Type 0 where
  pub times : List ℕ
  pub spread : AreSpread actions times steps
  pub order : KeepOrder setting actions times
