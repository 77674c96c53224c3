use Rattle.std.proofs.Common.{◌≡◌, ℕ, ◌-◌, ◌≤◌, List, get_or, take, drop, subst, arith}
use Rattle.solver_trail.specs.declared.values.Assigned.{Assigned}
use Rattle.solver_trail.specs.Trail.{literals_of}
use Rattle.cdcl.proofs.Walking.{Walk, walk_end, walk_back, walk_named, reason_is_line, EachVariable-take}
use Rattle.cdcl.proofs.analysis.Analysis.reduce.Goals as goal

pub visit-requires-clause-literals : goal.visit-requires-clause-literals
visit-requires-clause-literals c =
    let trail = c.args.values.now in
    let all = take c.args.end trail.entries in
    walk_named trail.vars c.loop-index.self.clause (literals_of all) c.args.self.now.clause c.loop-index.invariant.parts c.requires.literals
    (EachVariable-take (λ var. (1 ≤ var) × (var ≤ trail.vars)) trail.entries c.args.end c.entries.ensures.named)

pub visit-requires-clause-reason : goal.visit-requires-clause-reason
visit-requires-clause-reason c =
    let trail = c.args.values.now in
    let test = c.loop-index-test.true in
    let low = c.loop-index.auto.index in
    let end = c.requires.end in
    let is = subst (λ (xs : List Assigned). c.index-entries-index.result ≡ get_or xs (c.loop-index.index - 1) c.index-entries-index.result) c.entries.ensures.entries c.index-entries-index.is in
    reason_is_line c.args.log.now trail.entries (c.loop-index.index - 1) c.index-entries-index.result c.requires.forced (omega arith) is

pub loop-index-preserved : goal.loop-index-preserved
loop-index-preserved c =
    let trail = c.args.values.now in
    let is = subst (λ (xs : List Assigned). c.index-entries-index.result ≡ get_or xs (c.loop-index.index - 1) c.index-entries-index.result) c.entries.ensures.entries c.index-entries-index.is in
    let test = c.loop-index-test.true in
    let low = c.loop-index.auto.index in
    walk_back c.args.log.now trail c.args.end c.loop-index.index c.args.self.now.clause c.index-entries-index.result c.loop-index.self c.visit.new.self c.loop-index.invariant
    c.entries.ensures.order c.requires.forced c.entries.ensures.level (omega arith) (omega arith) c.requires.end is c.in_ok-visit.ensures

pub returns : goal.returns
returns c =
    let all = take c.args.end c.args.values.now.entries in
    let test = c.loop-index-test.false in
    let none : c.loop-index.index ≡ 0 = omega arith in
    walk_end c.args.log.now c.args.values.now all c.args.self.now.clause c.loop-index.self
    (subst (λ (i : ℕ). Walk c.args.log.now c.args.values.now all c.args.self.now.clause (take i all) (drop i all) c.loop-index.self) none c.loop-index.invariant)
