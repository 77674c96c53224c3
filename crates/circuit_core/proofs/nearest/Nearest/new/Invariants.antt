use Rattle.std.proofs.Common.{◌≡◌, ℕ, List, length, Some}
use Rattle.std.specs.Prelude.{slice_get}
use Rattle.qc_base.specs.declared.ids.OpId.{OpId}
use Rattle.circuit_core.specs.Nearest.{AreNearest}
use Rattle.circuit_core.specs.LastOps.{AreLast}
use Rattle.circuit_core.proofs.nearest.Nearest.new.Given as goal

-- the last operations so far, and the nearest of each operation so far
abbrev pub invariant-loop-number : goal.invariant-loop-number
invariant-loop-number l = record {
  last : AreLast l.circuit l.number l.last;
  len : length l.rows.items ≡ l.number;
  each : (op : ℕ) (near : List OpId) → slice_get l.rows.items op ≡ Some near → AreNearest l.circuit op near;
}
