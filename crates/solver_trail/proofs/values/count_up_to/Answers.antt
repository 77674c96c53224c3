use Rattle.std.proofs.Common.{sym, ap, ◌∙◌, arith}
use Rattle.solver_trail.specs.declared.values.Assigned.{Assigned}
use Rattle.solver_trail.proofs.Trails.{up_to-fewer, up_to-reached}
use Rattle.solver_trail.proofs.values.count_up_to.Goals as goal

pub loop-kept-preserved : goal.loop-kept-preserved
loop-kept-preserved c =
    let within = c.loop-kept.invariant.0 in
    let entry = c.index-entries-kept in
    let level = ap (λ (x : Assigned). x.level) entry.is in (
      omega arith,
      sym (up_to-fewer c.args.entries.now c.loop-kept.kept c.args.level entry.result c.loop-kept-test.true within entry.is (omega arith)) ∙ c.loop-kept.invariant.1,
    )

pub returns-then-entries-kept : goal.returns-then-entries-kept
returns-then-entries-kept c =
    let within = c.loop-kept.invariant.0 in
    let entry = c.index-entries-kept in
    let level = ap (λ (x : Assigned). x.level) entry.is in
    sym (up_to-reached c.args.entries.now c.loop-kept.kept c.args.level entry.result c.requires c.loop-kept-test.true within entry.is (omega arith)) ∙ c.loop-kept.invariant.1
