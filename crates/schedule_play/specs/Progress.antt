-- How far a schedule was played, as the simulator keeps it.
use Rattle.std.specs.Prelude.{◌≡◌, ℕ, ◌<◌, ◌≤◌, All, AllPairs, Bool, true, false, IsTrue, List, [], ◌∷◌, ◌++◌, length, map, take, slice_get, slice_index_or, slice_set, Some}
use Rattle.std.specs.List.{list_any}
use Rattle.qc_base.specs.declared.ids.Ion.{Ion}
use Rattle.qc_base.specs.declared.ids.OpId.{OpId}
use Rattle.trap_parts.specs.Parts.{TrapValue}
use Rattle.circuit_core.specs.Circuit.{CircuitValue}
use Rattle.circuit_core.specs.Order.{Forced, is_performed}
use Rattle.step_rules.specs.declared.action.Action.{Action}
use Rattle.step_rules.specs.declared.action.Action.TheVariants as actions
use Rattle.step_rules.specs.declared.spots.Footprint.{Footprint}
use Rattle.step_rules.specs.Footprint.{spots, is_worked_on}
use Rattle.step_rules.specs.Setting.{SettingValue}
use Rattle.step_rules.specs.Steps.{footprint, AreApart}
use Rattle.step_rules.specs.Guards.{PassesTransport}
use Rattle.step_rules.specs.Play.{is_done}
use Rattle.schedule_play.specs.declared.fault.PlayFault.{PlayFault}
use Rattle.schedule_play.specs.declared.fault.PlayFault.TheVariants as faults
use Rattle.schedule_play.specs.Judging.{Before, before_of, config_at, IsWell, GoWell, Offends}

-- the flag of each operation says whether these steps perform it
pub record AreFlags (circuit : CircuitValue) (steps : List (List Action)) (flags : List Bool) : Type 0 where
  pub len : length flags ≡ length circuit.ops
  pub each : (number : ℕ) → number < length flags → slice_index_or flags number false ≡ is_done steps number

-- the flags after an action more
abbrev pub marked : List Bool → Action → List Bool
marked flags (actions.Op zone op) = slice_set flags op.0 true
marked flags action = flags

-- what has to come before the operation, and has no flag
pub record IsOwed (circuit : CircuitValue) (flags : List Bool) (op needs : ℕ) : Type 0 where
  pub performed : IsTrue (is_performed circuit needs)
  pub forced : Forced circuit needs op
  pub undone : slice_index_or flags needs false ≡ false

-- the least such
pub record IsOwedFirst (circuit : CircuitValue) (flags : List Bool) (op needs : ℕ) : Type 0 where
  pub owed : IsOwed circuit flags op needs
  pub least : (other : ℕ) → IsOwed circuit flags op other → needs ≤ other

-- both footprints have a spot
abbrev pub do_meet : Footprint → Footprint → Bool
do_meet a b = list_any (is_worked_on (spots b)) (spots a)

-- none of so many first footprints meets that one
abbrev pub NoneMeets : List Footprint → ℕ → Footprint → Type 0
NoneMeets footprints count works =
    (place : ℕ) (other : Footprint) → place < count → slice_get footprints place ≡ Some other
    → do_meet other works ≡ false

-- the first that meets that one
pub record MeetsAt (footprints : List Footprint) (works : Footprint) (place : ℕ) : Type 0 where
  pub other : Footprint
  pub there : slice_get footprints place ≡ Some other
  pub meets : do_meet other works ≡ true
  pub before : NoneMeets footprints place works

-- what is wrong with the operation of an action, by the flags
abbrev pub OpOffends : CircuitValue → List Bool → List Bool → ℕ → OpId → PlayFault → Type 0
OpOffends circuit earlier done step op (faults.Early at early needs) =
    (at ≡ step) × (early ≡ op) × IsOwedFirst circuit earlier op.0 needs.0
OpOffends circuit earlier done step op (faults.Twice at twice) =
    (at ≡ step) × (twice ≡ op) × ((needs : ℕ) → IsOwed circuit earlier op.0 needs → ⊥)
    × (slice_index_or done op.0 false ≡ true)
OpOffends circuit earlier done step op _ = ⊥

-- nothing is wrong with it
abbrev pub OpIsWell : CircuitValue → List Bool → List Bool → OpId → Type 0
OpIsWell circuit earlier done op =
    ((needs : ℕ) → IsOwed circuit earlier op.0 needs → ⊥) × (slice_index_or done op.0 false ≡ false)

-- what was before the next action of a step, of which so many were judged
abbrev pub before_next : List (List Action) → List Action → ℕ → Before
before_next past step count = before_of past (take count step)

-- what the simulator keeps, after what was before an action
pub record IsStateBefore (setting : SettingValue) (before : Before) (places : List (List Ion))
    (early marks : List Bool) (works : List Footprint) : Type 0 where
  pub config : places ≡ config_at setting before
  pub earlier : AreFlags setting.circuit before.steps early
  pub done : AreFlags setting.circuit (before.steps ++ before.actions ∷ []) marks
  pub footprints : map spots works ≡ map (footprint setting.trap) before.actions
  pub well : GoWell setting before.steps

-- all is well with each action of a step after these
abbrev pub StepIsWell : SettingValue → List (List Action) → List Action → Type 0
StepIsWell setting steps step =
    (place : ℕ) (action : Action) → slice_get step place ≡ Some action
    → IsWell setting (before_next steps step place) action

-- all is well before some action of the step, and this is wrong with it
pub record StepStops (setting : SettingValue) (steps : List (List Action)) (step : List Action)
    (fault : PlayFault) : Type 0 where
  pub place : ℕ
  pub action : Action
  pub in_step : slice_get step place ≡ Some action
  pub well : StepIsWell setting steps (take place step)
  pub offends : Offends setting (before_of steps (take place step)) action fault

-- the first fault of the step; out of memory says nothing
abbrev pub ExplainsStep : SettingValue → List (List Action) → List Action → PlayFault → Type 0
ExplainsStep setting steps step faults.NoMemory = Unit {0}
ExplainsStep setting steps step fault = StepStops setting steps step fault

-- an action has to perform the operation, and it has no flag
pub record IsUndone (circuit : CircuitValue) (flags : List Bool) (op : ℕ) : Type 0 where
  pub performed : IsTrue (is_performed circuit op)
  pub undone : slice_index_or flags op false ≡ false

-- the least such
pub record IsMissing (circuit : CircuitValue) (flags : List Bool) (op : ℕ) : Type 0 where
  pub undone : IsUndone circuit flags op
  pub least : (other : ℕ) → other < op → IsUndone circuit flags other → ⊥

-- the step is legal, by the guards of the trap and the configuration alone
pub record MayBeTaken (trap : TrapValue) (places : List (List Ion)) (step : List Action) : Type 0 where
  pub passes : All (PassesTransport trap places) step
  pub apart : AllPairs (AreApart trap) step
