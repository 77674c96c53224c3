-- Which operations come right before an operation.
use Rattle.std.specs.Prelude.{◌≡◌, ℕ, List, length, slice_get, Some, Contains}
use Rattle.qc_base.specs.declared.ids.OpId.{OpId}
use Rattle.circuit_core.specs.Circuit.{CircuitValue}
use Rattle.circuit_core.specs.Order.{Forced, IsReached}

-- the number is one of the list's
abbrev pub IsListed : List OpId → ℕ → Type 0
IsListed near number = Contains near (record { 0 = number })

-- each of them has to come before the operation, and what has to come before it is one of them or has to come
-- before one of them
pub record AreNearest (circuit : CircuitValue) (op : ℕ) (near : List OpId) : Type 0 where
  pub sound : (number : ℕ) → IsListed near number → Forced circuit number op
  pub all : (number : ℕ) → Forced circuit number op → IsReached circuit (IsListed near) number

-- such a list for each operation
pub record IsNearestTable (circuit : CircuitValue) (table : List (List OpId)) : Type 0 where
  pub len : length table ≡ length circuit.ops
  pub each : (op : ℕ) (near : List OpId) → slice_get table op ≡ Some near → AreNearest circuit op near
