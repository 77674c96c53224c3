use Rattle.std.proofs.Common.{◌≡◌, List, length, get_or, take, ap, ◌∙◌, subst, arith}
use Rattle.std.specs.Prelude.{IsSome}
use Rattle.std.proofs.lemmas.Option.{slice_get_within}
use Rattle.derivation_log.specs.Log.{IsLine, clause_of}
use Rattle.solver_trail.specs.declared.values.Assigned.{Assigned}
use Rattle.solver_trail.specs.Trail.{literals_of, Forces}
use Rattle.cdcl.specs.Learning.{HasNoTrue}
use Rattle.cdcl.specs.Solver.{SolverState}
use Rattle.cdcl.proofs.Adding.{forces_one_left}
use Rattle.cdcl.proofs.Learning.{Base, base_reason, base_refutes, forced_at_base}
use Rattle.cdcl.proofs.solver.Solver.deny.Goals as goal

pub unwrap-reason-requires : goal.unwrap-reason-requires
unwrap-reason-requires g c =
    let trail = c.self.inside.values in
    let place = c.place-place.result in
    let (entry, there) = c.place-place.ensures in
    let within = slice_get_within trail.entries place entry there.0 in
    let is = subst (λ (xs : List Assigned). c.index-entries-place.result ≡ get_or xs place c.index-entries-place.result) c.entries-entries.ensures.entries c.index-entries-place.is in
    let base = ap (λ (s : SolverState). s.trail.level) c.self.view_is ∙ c.requires.level in
    let here : Base c.self.inside.log trail place c.index-entries-place.result = record { sound = c.self.invariant.0; order = c.entries-entries.ensures.order; last = c.entries-entries.ensures.level; base = base; within = within; is = is } in
    subst (λ (x : Assigned). IsSome x.reason) c.index-entries-place.is (base_reason c.self.inside.log trail place c.index-entries-place.result here)

pub refute-requires-clause-end : goal.refute-requires-clause-end
refute-requires-clause-end g c =
    let trail = c.self.inside.values in
    let (entry, there) = c.place-place.ensures in
    let within = slice_get_within trail.entries c.place-place.result entry there.0 in
    let view = ap (λ (s : SolverState). length s.trail.entries) c.self.view_is in
    omega arith

pub refute-requires-clause-is_line : goal.refute-requires-clause-is_line
refute-requires-clause-is_line g c =
    let forced = forced_at_base c.self.inside.log c.self.inside.values c.place-place.result c.entries-entries.result.now c.index-entries-place.result c.unwrap-reason.result c.negated-negation.result c.self.invariant.0 c.entries-entries.ensures.order c.entries-entries.ensures.level
    (ap (λ (s : SolverState). s.trail.level) c.self.view_is ∙ c.requires.level) c.entries-entries.ensures.entries c.index-entries-place.is c.place-place.ensures c.unwrap-reason.ensures in
    subst (λ (s : SolverState). IsLine s.log c.unwrap-reason.result) c.self.view_is forced.is_line

pub refute-requires-clause-none_true : goal.refute-requires-clause-none_true
refute-requires-clause-none_true g c =
    let forced = forced_at_base c.self.inside.log c.self.inside.values c.place-place.result c.entries-entries.result.now c.index-entries-place.result c.unwrap-reason.result c.negated-negation.result c.self.invariant.0 c.entries-entries.ensures.order c.entries-entries.ensures.level
    (ap (λ (s : SolverState). s.trail.level) c.self.view_is ∙ c.requires.level) c.entries-entries.ensures.entries c.index-entries-place.is c.place-place.ensures c.unwrap-reason.ensures in
    subst (λ (s : SolverState). HasNoTrue (literals_of (take c.place-place.result s.trail.entries)) (clause_of s.log c.unwrap-reason.result)) c.self.view_is forced.none_true

pub returns-clause-refutes : goal.returns-clause-refutes
returns-clause-refutes g c =
    let forced = forced_at_base c.self.inside.log c.self.inside.values c.place-place.result c.entries-entries.result.now c.index-entries-place.result c.unwrap-reason.result c.negated-negation.result c.self.invariant.0 c.entries-entries.ensures.order c.entries-entries.ensures.level
    (ap (λ (s : SolverState). s.trail.level) c.self.view_is ∙ c.requires.level) c.entries-entries.ensures.entries c.index-entries-place.is c.place-place.ensures c.unwrap-reason.ensures in
    let now = c.args.self.now in
    let forces = subst (λ (s : SolverState). Forces (literals_of (take c.place-place.result s.trail.entries)) (clause_of s.log c.unwrap-reason.result) c.negated-negation.result) c.self.view_is forced.forces in
    base_refutes (literals_of (take c.place-place.result now.trail.entries)) (clause_of now.log c.unwrap-reason.result) (clause_of c.refute.new.self.log c.in_ok-line.line) c.negated-negation.result c.args.assumption forces c.negated-negation.ensures c.in_ok-line.ensures.left

pub refute-requires-clause-one : goal.refute-requires-clause-one
refute-requires-clause-one g c =
    let forced = forced_at_base c.self.inside.log c.self.inside.values c.place-place.result c.entries-entries.result.now c.index-entries-place.result c.unwrap-reason.result c.negated-negation.result c.self.invariant.0 c.entries-entries.ensures.order c.entries-entries.ensures.level
    (ap (λ (s : SolverState). s.trail.level) c.self.view_is ∙ c.requires.level) c.entries-entries.ensures.entries c.index-entries-place.is c.place-place.ensures c.unwrap-reason.ensures in
    let now = c.args.self.now in
    let forces = subst (λ (s : SolverState). Forces (literals_of (take c.place-place.result s.trail.entries)) (clause_of s.log c.unwrap-reason.result) c.negated-negation.result) c.self.view_is forced.forces in
    forces_one_left (literals_of (take c.place-place.result now.trail.entries)) (clause_of now.log c.unwrap-reason.result) c.negated-negation.result forces
