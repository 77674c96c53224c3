use Rattle.std.proofs.Common.{◌≡◌, []}
use Rattle.solver_tests.proofs.tests.searches.with_clauses.Given as goal

abbrev pub invariant-loop-code : goal.invariant-loop-code
invariant-loop-code l = (l.solver.trail.vars ≡ 6) × (l.solver.log.derived ≡ [])
