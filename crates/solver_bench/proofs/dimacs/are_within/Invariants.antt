use Rattle.std.proofs.Common.{◌≤◌, take}
use Rattle.sat_base.specs.Clauses.{EachVariable}
use Rattle.solver_bench.proofs.dimacs.are_within.Given as goal

abbrev pub invariant-loop-lit : goal.invariant-loop-lit
invariant-loop-lit l = EachVariable (λ var. var ≤ l.vars) (take l.lit-index l.lits)
