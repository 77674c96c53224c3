use Rattle.std.proofs.Common.{◌≡◌}
use Rattle.solver_bench.proofs.dimacs.read_clauses.Given as goal

abbrev pub invariant-loop-line : goal.invariant-loop-line
invariant-loop-line l = record {
  vars : l.solver.trail.vars ≡ l.fn.solver.trail.vars;
  derived : l.solver.log.derived ≡ l.fn.solver.log.derived;
}
