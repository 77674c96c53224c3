-- From which step on all that has to come before an operation is done, as the simulator keeps it.
use Rattle.std.specs.Prelude.{◌≡◌, ℕ, ◌-◌, ◌<◌, ◌≤◌, ◌^◌, min, true, IsTrue, if◌then◌else◌, List, length, take, slice_index_or, slice_set}
use Rattle.circuit_core.specs.Circuit.{CircuitValue}
use Rattle.circuit_core.specs.Order.{Forced, is_performed}
use Rattle.step_rules.specs.declared.action.Action.{Action}
use Rattle.step_rules.specs.declared.action.Action.TheVariants as actions
use Rattle.step_rules.specs.Play.{is_done}

-- all that has to come before the operation is performed by these steps
abbrev pub IsReady : CircuitValue → List (List Action) → ℕ → Type 0
IsReady circuit steps op =
    (needs : ℕ) → IsTrue (is_performed circuit needs) → Forced circuit needs op → is_done steps needs ≡ true

-- so of each operation that these steps perform
abbrev pub AreClosed : CircuitValue → List (List Action) → Type 0
AreClosed circuit steps = (op : ℕ) → is_done steps op ≡ true → IsReady circuit steps op

-- each operation of the table is performed by as many first steps as its number says, where there are as many
abbrev pub AreDoneAfter : List (List Action) → List ℕ → Type 0
AreDoneAfter steps firsts =
    (op time : ℕ) → op < length firsts → slice_index_or firsts op 0 ≤ time → time < 2 ^ 64 - 1
    → is_done (take time steps) op ≡ true

-- the table after an action of the step of that number, counted from 1
abbrev pub noted : ℕ → List ℕ → Action → List ℕ
noted number firsts (actions.Op zone op) = slice_set firsts op.0 (min (slice_index_or firsts op.0 0) number)
noted number firsts action = firsts

-- after how many steps an operation and all before it are done: by its own number, and for a barrier by when it is
-- ready
abbrev pub settled_after : CircuitValue → List ℕ → List ℕ → ℕ → ℕ
settled_after circuit firsts ready op =
    if is_performed circuit op then slice_index_or firsts op 0 else slice_index_or ready op 0

-- each operation of the table is ready after as many steps as its number says, where there are as many and they are
-- closed
abbrev pub AreReadyAfter : CircuitValue → List (List Action) → List ℕ → Type 0
AreReadyAfter circuit steps ready =
    (op time : ℕ) → op < length ready → slice_index_or ready op 0 ≤ time → time < 2 ^ 64 - 1
    → AreClosed circuit (take time steps) → IsReady circuit (take time steps) op

-- each operation of the circuit is ready after these steps where its number is no greater than how many they are
pub record IsReadyTable (circuit : CircuitValue) (past : List (List Action)) (ready : List ℕ) : Type 0 where
  pub len : length ready ≡ length circuit.ops
  pub settled : (op : ℕ) → op < length circuit.ops → slice_index_or ready op 0 ≤ length past
      → AreClosed circuit past → IsReady circuit past op

-- so after each number of first steps
abbrev pub IsReadyThroughout : CircuitValue → List (List Action) → List ℕ → Type 0
IsReadyThroughout circuit steps ready =
    (time : ℕ) → time < length steps → IsReadyTable circuit (take time steps) ready
