use Rattle.std.proofs.Common.{List, [], length, sym, ap, ◌∙◌, subst}
use Rattle.derivation_log.specs.Log.{clause_of}
use Rattle.solver_trail.specs.declared.values.Assigned.{Assigned}
use Rattle.solver_trail.specs.Trail.{literals_of, AreInOrder}
use Rattle.cdcl.specs.Learning.{HasNoTrue}
use Rattle.cdcl.specs.Solver.{SolverState}
use Rattle.cdcl.proofs.Walking.{order_consistent}
use Rattle.cdcl.specs.Searching.{HasOneLeft}
use Rattle.cdcl.proofs.Adding.{false_one_left}
use Rattle.cdcl.proofs.Learning.{false_none_true, take_whole}
use Rattle.cdcl.proofs.solver.Solver.contradict.Goals as goal

pub refute-requires-clause-none_true : goal.refute-requires-clause-none_true
refute-requires-clause-none_true g c =
    let entries = c.args.self.now.trail.entries in
    let view = ap (λ (s : SolverState). s.trail.entries) c.self.view_is in
    let whole = take_whole (length c.entries-end.result.now) entries (ap length (sym view ∙ sym c.entries-end.ensures.entries)) in
    let order = subst (λ (xs : List Assigned). AreInOrder [] xs) view c.entries-end.ensures.order in
    subst (λ (xs : List Assigned). HasNoTrue (literals_of xs) (clause_of c.args.self.now.log c.args.falsified)) (sym whole)
    (false_none_true (literals_of entries) (clause_of c.args.self.now.log c.args.falsified) (order_consistent [] entries order) c.requires.falsified.falsified)

pub refute-requires-clause-one : goal.refute-requires-clause-one
refute-requires-clause-one g c =
    let entries = c.args.self.now.trail.entries in
    let view = ap (λ (s : SolverState). s.trail.entries) c.self.view_is in
    let whole = take_whole (length c.entries-end.result.now) entries (ap length (sym view ∙ sym c.entries-end.ensures.entries)) in
    subst (λ (xs : List Assigned). HasOneLeft (literals_of xs) (clause_of c.args.self.now.log c.args.falsified)) (sym whole)
    (false_one_left (literals_of entries) (clause_of c.args.self.now.log c.args.falsified) c.requires.falsified.falsified)
