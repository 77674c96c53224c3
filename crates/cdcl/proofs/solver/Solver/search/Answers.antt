use Rattle.std.proofs.Common.{◌≡◌, ◌≢◌, length, sym, ap, ◌∙◌, subst}
use Rattle.std.proofs.lemmas.Bool.{both_ways}
use Rattle.sat_base.specs.Derivation.{Refutes}
use Rattle.derivation_log.specs.Log.{Lines, clause_of}
use Rattle.cdcl.specs.Solver.{SolverState}
use Rattle.cdcl.proofs.Searches.{Searched, learns_line, searches_on, searches_back}
use Rattle.cdcl.proofs.solver.Solver.search.Goals as goal

pub returns-then-refutes-clause-learns : goal.returns-then-refutes-clause-learns
returns-then-refutes-clause-learns g c =
    let old = c.args.self.now in
    let mid = c.descend.new.self in
    let searched = subst (λ (log : Lines). Searched old.log log c.args.assumption c.args.budget) (sym c.descend.ensures.trail_only.log) c.loop-conflict.invariant.log in
    learns_line old.log mid.log c.resolve.new.self.log c.args.assumption c.args.budget c.in_ok-line.line searched c.in_ok-line.ensures.adds c.in_ok-line.ensures.learnt

pub loop-conflict-preserved : goal.loop-conflict-preserved
loop-conflict-preserved g c =
    let mid = c.descend.new.self in
    let now = c.resolve.new.self in
    let clause : c.clause.result.now ≡ clause_of now.log c.in_ok-line.line = c.clause.ensures ∙ ap (λ (s : SolverState). clause_of s.log c.in_ok-line.line) c.self-in-loop-conflict.view_is in
    let remains : Refutes c.args.assumption (clause_of now.log c.in_ok-line.line) → ⊥ = λ refutes.
    both_ways c.refutes.result c.if-refutes.false (c.refutes.ensures.1 (subst (Refutes c.args.assumption) (sym clause) refutes)) in
    let short : length mid.log.derived ≢ c.args.budget = λ e. c.if-derived-budget.false (c.derived.ensures ∙ ap (λ (s : SolverState). length s.log.derived) c.self.view_is ∙ e) in
    searches_on c.args.self.now c.loop-conflict.self mid now c.args.assumption c.args.budget c.in_ok-line.line c.loop-conflict.invariant c.descend.ensures.trail_only c.in_ok-line.ensures.adds c.in_ok-line.ensures.learnt remains short
    c.in_ok-line.ensures.vars c.in_ok-line.ensures.failed c.in_ok-line.ensures.assumed

pub loop-conflict-preserved-then-is_due : goal.loop-conflict-preserved-then-is_due
loop-conflict-preserved-then-is_due g c =
    let mid = c.descend.new.self in
    let now = c.resolve.new.self in
    let clause : c.clause.result.now ≡ clause_of now.log c.in_ok-line.line = c.clause.ensures ∙ ap (λ (s : SolverState). clause_of s.log c.in_ok-line.line) c.self-in-loop-conflict.view_is in
    let remains : Refutes c.args.assumption (clause_of now.log c.in_ok-line.line) → ⊥ = λ refutes.
    both_ways c.refutes.result c.if-refutes.false (c.refutes.ensures.1 (subst (Refutes c.args.assumption) (sym clause) refutes)) in
    let short : length mid.log.derived ≢ c.args.budget = λ e. c.if-derived-budget.false (c.derived.ensures ∙ ap (λ (s : SolverState). length s.log.derived) c.self.view_is ∙ e) in
    let on = searches_on c.args.self.now c.loop-conflict.self mid now c.args.assumption c.args.budget c.in_ok-line.line c.loop-conflict.invariant c.descend.ensures.trail_only c.in_ok-line.ensures.adds c.in_ok-line.ensures.learnt remains short
    c.in_ok-line.ensures.vars c.in_ok-line.ensures.failed c.in_ok-line.ensures.assumed in
    let back = c.backjump-then-is_due.ensures.keeps in
    searches_back c.args.self.now now c.backjump-then-is_due.new.self c.args.assumption c.args.budget on
    (ap (λ (s : SolverState). s.log) back) (ap (λ (s : SolverState). s.trail.vars) back) (ap (λ (s : SolverState). s.failed) back) (ap (λ (s : SolverState). s.trail.level) back)
