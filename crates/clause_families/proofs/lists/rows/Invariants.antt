use Rattle.std.proofs.Common.{◌≡◌, ◌++◌, drop, map}
use Rattle.clause_families.specs.Clauses.{row_of}
use Rattle.clause_families.proofs.lists.rows.Given as goal

abbrev pub invariant-loop-cell : goal.invariant-loop-cell
invariant-loop-cell l = l.rows.items ++ map row_of (drop l.cell-index l.cells) ≡ map row_of l.cells
