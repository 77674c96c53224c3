-- The last step of the actions that matter: working notions of private functions.
use Rattle.std.specs.Prelude.{◌≡◌, ℕ, zero, suc, ◌+◌, ◌<◌, ◌⊎◌, List, [], ◌∷◌, ◌++◌, length, take, slice_get, Some}
use Rattle.step_rules.specs.declared.action.Action.{Action}
use Rattle.step_rules.specs.Placement.{start_of}
use Rattle.step_rules.specs.Setting.{SettingValue}
use Rattle.step_rules.specs.Play.{AreLegal, after_steps, one_at_a_time}
use Rattle.step_rules.specs.Tight.{Conflict}
use Rattle.compact.specs.Tightened.{AreSpread}

-- the action is in the list, with that step
pub record IsAt (actions : List Action) (times : List ℕ) (action : Action) (time : ℕ) : Type 0 where
  pub position : ℕ
  pub is_action : slice_get actions position ≡ Some action
  pub is_time : slice_get times position ≡ Some time

-- an action that matters has that step as its last
pub record IsEndedBy (noted : Action → ℕ → Type 0) (matters : Action → Type 0) (level : ℕ) : Type 0 where
  pub action : Action
  pub time : ℕ
  pub is_noted : noted action time
  pub it_matters : matters action
  pub is_last : time + 1 ≡ level

-- after so many steps, and no fewer, all actions that matter are done
pub record IsLast (noted : Action → ℕ → Type 0) (matters : Action → Type 0) (level : ℕ) : Type 0 where
  pub done : (action : Action) (time : ℕ) → noted action time → matters action → time < level
  pub ended : (level ≡ 0) ⊎ IsEndedBy noted matters level

-- the step of an action after these is the first after all those that conflict with it
abbrev pub IsNextTime : SettingValue → List Action → List ℕ → Action → ℕ → Type 0
IsNextTime setting actions times action time =
    IsLast (IsAt actions times) (λ (earlier : Action). Conflict setting.trap setting.circuit earlier action) time

-- so for each action of the list
pub record AreTimes (setting : SettingValue) (actions : List Action) (times : List ℕ) : Type 0 where
  pub len : length times ≡ length actions
  pub each : (k : ℕ) (action : Action) (time : ℕ) → slice_get actions k ≡ Some action → slice_get times k ≡ Some time
      → IsNextTime setting (take k actions) (take k times) action time

-- the steps of so many first actions
pub record AreBuilt (setting : SettingValue) (actions : List Action) (times : List ℕ)
    (steps : List (List Action)) : Type 0 where
  pub spread : AreSpread actions times steps
  pub some : (time : ℕ) (step : List Action) → slice_get steps time ≡ Some step → 0 < length step
  pub legal : AreLegal setting (start_of setting.trap setting.placement) steps
  pub last : after_steps setting.trap (start_of setting.trap setting.placement) steps
      ≡ after_steps setting.trap (start_of setting.trap setting.placement) (one_at_a_time actions)

-- the action at the end of that step, or as a step of its own where there are no more
abbrev pub put : List (List Action) → ℕ → Action → List (List Action)
put [] time action = (action ∷ []) ∷ []
put (step ∷ steps) zero action = (step ++ action ∷ []) ∷ steps
put (step ∷ steps) (suc time) action = step ∷ put steps time action
