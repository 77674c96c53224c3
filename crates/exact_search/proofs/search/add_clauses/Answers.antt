use Rattle.std.proofs.Common.{◌≡◌, ℕ, ◌<◌, ◌≤◌, ◌+◌, length, drop, sym, ap, subst, ◌∙◌, arith}
use Rattle.sat_base.specs.Clauses.{EachVariable, NameOnly}
use Rattle.sat_base.proofs.Clauses.{NameOnly-next}
use Rattle.cdcl.specs.Solver.{SolverState}
use Rattle.exact_search.proofs.Adding.{clause_more}
use Rattle.exact_search.proofs.search.add_clauses.Goals as goal

pub add_clause-requires-clause-named : goal.add_clause-requires-clause-named
add_clause-requires-clause-named c =
    let vars = c.loop-k.solver.trail.vars in
    let within : c.loop-k.k < length c.args.part.now = omega (arith, c.loop-k-test.true, c.len-k-end.ensures) in
    let next = NameOnly-next (λ var. var ≤ vars) c.args.part.now c.loop-k.k within c.loop-k.invariant.named in
    subst (EachVariable (λ var. var ≤ vars)) (sym c.clause.ensures.clause) next.0

pub loop-k-preserved : goal.loop-k-preserved
loop-k-preserved c =
    let old = c.loop-k.solver in
    let new = c.add_clause.new.self in
    let within : c.loop-k.k < length c.args.part.now = omega (arith, c.loop-k-test.true, c.len-k-end.ensures) in
    let e = c.in_ok-add_clause.ensures.ok in
    let vars : new.trail.vars ≡ old.trail.vars = ap (λ (solver : SolverState). solver.trail.vars) e in
    let next = NameOnly-next (λ var. var ≤ old.trail.vars) c.args.part.now c.loop-k.k within c.loop-k.invariant.named in
    record {
      axioms = clause_more old new c.args.solver.now.log.axioms c.args.part.now c.loop-k.k c.clause.result.now within c.clause.ensures.clause e c.loop-k.invariant.axioms;
      derived = ap (λ (solver : SolverState). solver.log.derived) e ∙ c.loop-k.invariant.derived;
      vars = vars ∙ c.loop-k.invariant.vars;
      named = subst (λ (n : ℕ). NameOnly (λ var. var ≤ n) (drop (c.loop-k.k + 1) c.args.part.now)) (sym vars) next.1;
    }
