-- Which operations of a circuit are ready, after some of them are done.
use Rattle.std.specs.Prelude.{◌≡◌, ℕ, ◌<◌, ◌↔◌, true, List, Contains, AllPairs}
use Rattle.qc_base.specs.declared.ids.OpId.{OpId}
use Rattle.circuit_core.specs.Circuit.{CircuitValue}
use Rattle.circuit_core.specs.Order.{Forced, is_performed}

-- a circuit, and the operations that are done, in the order in which they were done
pub record ReadyValue : Type 0 where
  pub circuit : CircuitValue
  pub done : List OpId

-- the operation of the number is one of these
abbrev pub IsAmong : List OpId → ℕ → Type 0
IsAmong ops number = Contains ops (record { 0 = number })

-- It is no barrier and isn't done, and all operations without barriers that have to come before it are done.
pub record IsReady (circuit : CircuitValue) (done : List OpId) (number : ℕ) : Type 0 where
  pub performed : is_performed circuit number ≡ true
  pub waits : ¬ IsAmong done number
  pub before : (other : ℕ) → Forced circuit other number → is_performed circuit other ≡ true → IsAmong done other

-- these are the ready operations, in ascending order
pub record AreReady (value : ReadyValue) (ready : List OpId) : Type 0 where
  pub ascending : AllPairs (λ (op other : OpId). op.0 < other.0) ready
  pub each : (number : ℕ) → IsAmong ready number ↔ IsReady value.circuit value.done number
