use Rattle.std.proofs.Common.{◌≡◌, ◌≤◌, ◌++◌, drop}
use Rattle.sat_base.specs.Clauses.{NameOnly}
use Rattle.exact_search.proofs.search.add_clauses.Given as goal

-- the axioms and the clauses to come are the axioms before and all clauses
abbrev pub invariant-loop-k : goal.invariant-loop-k
invariant-loop-k l = record {
  axioms : l.solver.log.axioms ++ drop l.k l.part ≡ l.fn.solver.log.axioms ++ l.part;
  derived : l.solver.log.derived ≡ l.fn.solver.log.derived;
  vars : l.solver.trail.vars ≡ l.fn.solver.trail.vars;
  named : NameOnly (λ var. var ≤ l.solver.trail.vars) (drop l.k l.part);
}
