use Rattle.std.proofs.Common.{◌≡◌}
use Rattle.solver_bench.proofs.dimacs.read_line.Given as goal

abbrev pub invariant-loop-word : goal.invariant-loop-word
invariant-loop-word l = record {
  vars : l.solver.trail.vars ≡ l.fn.solver.trail.vars;
  derived : l.solver.log.derived ≡ l.fn.solver.log.derived;
}
