use Rattle.std.proofs.Common.{◌≡◌, []}
use Rattle.solver_tests.proofs.tests.searches.pigeonhole.Given as goal

abbrev pub invariant-loop-i : goal.invariant-loop-i
invariant-loop-i l = (l.solver.trail.vars ≡ 31) × (l.solver.log.derived ≡ [])

abbrev pub invariant-loop-k : goal.invariant-loop-k
invariant-loop-k l = (l.solver.trail.vars ≡ 31) × (l.solver.log.derived ≡ [])

abbrev pub invariant-loop-i-2 : goal.invariant-loop-i-2
invariant-loop-i-2 l = (l.solver.trail.vars ≡ 31) × (l.solver.log.derived ≡ [])
