use Rattle.std.proofs.Common.{◌≡◌, []}
use Rattle.solver_tests.proofs.tests.searches.with_far_clauses.Given as goal

abbrev pub invariant-loop-k : goal.invariant-loop-k
invariant-loop-k l = record {
  vars : l.solver.trail.vars ≡ 20002;
  log : l.solver.log.derived ≡ [];
}
