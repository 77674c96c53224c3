-- Which operation comes next in a serial list of actions.
use Rattle.std.specs.Prelude.{◌≡◌, ℕ, ◌≤◌, Bool, true, false, List, [], ◌∷◌, fold, take, slice_get, Some, IsSomeAnd}
use Rattle.qc_base.specs.declared.ids.OpId.{OpId}
use Rattle.qc_base.specs.declared.ids.PlaceId.{PlaceId}
use Rattle.qc_base.specs.declared.ids.Ion.{Ion}
use Rattle.gate_order.specs.Ready.{IsReady}
use Rattle.trap_model.specs.Trap.{is_zone}
use Rattle.ion_chain.specs.Transfer.{list_at}
use Rattle.step_rules.specs.declared.action.Action.{Action}
use Rattle.step_rules.specs.declared.action.Action.TheVariants as kinds
use Rattle.step_rules.specs.Setting.{SettingValue}
use Rattle.step_rules.specs.Placement.{start_of}
use Rattle.step_rules.specs.Guards.{is_able_for, are_among}
use Rattle.step_rules.specs.Play.{after_steps, one_at_a_time}

-- where the ions are after these actions
abbrev pub config_after : SettingValue → List Action → List (List Ion)
config_after setting actions =
    after_steps setting.trap (start_of setting.trap setting.placement) (one_at_a_time actions)

-- the operations that these actions perform, in order
abbrev pub ops_of : List Action → List OpId
ops_of [] = []
ops_of (kinds.Op zone op ∷ rest) = op ∷ ops_of rest
ops_of (_ ∷ rest) = ops_of rest

abbrev pub is_op : Action → Bool
is_op (kinds.Op zone op) = true
is_op _ = false

-- the zone is able to perform the operation, and the operation's ions are in it
pub record IsTogether (setting : SettingValue) (config : List (List Ion)) (zone op : ℕ) : Type 0 where
  pub there : is_zone setting.trap zone ≡ true
  pub able : is_able_for setting zone op ≡ true
  pub ions : are_among setting (list_at config zone) op ≡ true

-- after these actions the operation is ready, and its ions are together in that zone, which is able to perform it
pub record IsPossible (setting : SettingValue) (actions : List Action) (zone op : ℕ) : Type 0 where
  pub ready : IsReady setting.circuit (ops_of actions) op
  pub together : IsTogether setting (config_after setting actions) zone op

-- it is the least such operation
pub record IsNext (setting : SettingValue) (actions : List Action) (zone op : ℕ) : Type 0 where
  pub possible : IsPossible setting actions zone op
  pub least : (other_zone other : ℕ) → IsPossible setting actions other_zone other → op ≤ other

-- at the start, and where the last action is an operation
abbrev pub is_turn : List Action → Bool
is_turn actions = fold (λ (before : Bool) (action : Action). is_op action) true actions

-- Each operation is performed where it is the least ready one whose ions are together in an able zone, in such a
-- zone; and where there is one at the start or after an operation, the next action performs an operation.
pub record IsGreedy (setting : SettingValue) (actions : List Action) : Type 0 where
  pub next : (k : ℕ) (zone : PlaceId) (op : OpId) → slice_get actions k ≡ Some (kinds.Op zone op)
      → IsNext setting (take k actions) zone.0 op.0
  pub at_once : (k zone op : ℕ) → is_turn (take k actions) ≡ true → IsPossible setting (take k actions) zone op
      → IsSomeAnd (slice_get actions k) (λ (action : Action). is_op action ≡ true)

-- a split is of one ion
abbrev pub IsSingle : Action → Type 0
IsSingle (kinds.Split zone end count) = count ≡ 1
IsSingle _ = Unit {0}
