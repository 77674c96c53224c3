use Rattle.std.proofs.Common.{◌≡◌, []}
use Rattle.solver_tests.proofs.tests.searches.four_pairs.Given as goal

abbrev pub invariant-loop-k : goal.invariant-loop-k
invariant-loop-k l = (l.solver.trail.vars ≡ 2) × (l.solver.log.derived ≡ [])
