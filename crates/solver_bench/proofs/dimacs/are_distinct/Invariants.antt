use Rattle.std.proofs.Common.{take}
use Rattle.sat_base.specs.Clauses.{HasDistinctVariables}
use Rattle.solver_bench.proofs.dimacs.are_distinct.Given as goal

abbrev pub invariant-loop-index : goal.invariant-loop-index
invariant-loop-index l = HasDistinctVariables (take l.index l.lits)
