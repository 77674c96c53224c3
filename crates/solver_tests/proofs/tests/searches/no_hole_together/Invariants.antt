use Rattle.std.proofs.Common.{◌≡◌}
use Rattle.solver_tests.proofs.tests.searches.no_hole_together.Given as goal

abbrev pub invariant-loop-j : goal.invariant-loop-j
invariant-loop-j l = (l.solver.trail.vars ≡ 31) × (l.solver.log.derived ≡ l.fn.solver.log.derived)
