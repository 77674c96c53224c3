-- What is kept of the actions that have their steps: working notions of private functions.
use Rattle.std.specs.Prelude.{ℕ, ◌<◌, ◌≤◌, All, List, length, take, Contains}
use Rattle.trap_parts.specs.Parts.{TrapValue}
use Rattle.step_rules.specs.declared.action.Action.{Action}
use Rattle.step_rules.specs.Setting.{SettingValue}
use Rattle.step_rules.specs.Steps.{Spot, footprint}
use Rattle.compact.specs.Latest.{IsLast, IsAt, AreTimes}
use Rattle.compact.specs.Levels.{SpotsValue, spot_level}
use Rattle.compact.specs.Orders.{OrdersValue, AreOrders}

pub record ClockValue : Type 0 where
  pub spots : SpotsValue
  pub orders : OrdersValue

-- the level of each spot is when all actions that work on it are done
abbrev pub AreSpots : TrapValue → (Action → ℕ → Type 0) → SpotsValue → Type 0
AreSpots trap noted levels =
    (spot : Spot)
    → IsLast noted (λ (action : Action). Contains (footprint trap action) spot) (spot_level levels spot)

-- what is kept after the first actions of the list, which have these times
pub record IsClock (setting : SettingValue) (actions : List Action) (times : List ℕ) (clock : ClockValue) : Type 0 where
  pub spots : AreSpots setting.trap (IsAt (take (length times) actions) times) clock.spots
  pub orders : AreOrders setting.circuit actions times (length times) clock.orders

-- what is known of the times of so many first actions
pub record IsKnown (setting : SettingValue) (actions : List Action) (times : List ℕ) (clock : ClockValue) : Type 0 where
  pub within : length times ≤ length actions
  pub times_are : AreTimes setting (take (length times) actions) times
  pub below : All (λ (time : ℕ). time < length times) times
  pub kept : IsClock setting actions times clock
