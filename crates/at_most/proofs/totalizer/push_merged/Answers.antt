use Rattle.std.proofs.Common.{◌+◌, ◌<◌, length, arith}
use Rattle.at_most.specs.AtMost.{AddsPrefix}
use Rattle.at_most.specs.Totalizer.{premises, merged}
use Rattle.at_most.proofs.Emitted.{emitted_same, emitted_more, emitted_within, on_err}
use Rattle.at_most.proofs.Sums.{merged_step}
use Rattle.at_most.proofs.totalizer.push_merged.Goals as goal

pub returns-in_err-push_sums-clause-err : goal.returns-in_err-push_sums-clause-err
returns-in_err-push_sums-clause-err c =
    let within : c.loop-left.left < length c.args.lefts.now + 1 = omega arith in
    let rights = premises c.args.rights.now in
    let next = emitted_same _ _ _ _ _ c.loop-left.invariant (merged_step c.args.lefts.now rights c.args.first c.args.most c.loop-left.left within) in
    on_err c.from_residual.result (AddsPrefix c.args.out.now c.push_sums.new.out (merged (premises c.args.lefts.now) 0 rights c.args.first c.args.most))
    (emitted_within _ _ _ _ _ _ next c.in_err-push_sums.ensures.err)

pub loop-left-preserved : goal.loop-left-preserved
loop-left-preserved c =
    let within : c.loop-left.left < length c.args.lefts.now + 1 = omega arith in
    let next = emitted_same _ _ _ _ _ c.loop-left.invariant (merged_step c.args.lefts.now (premises c.args.rights.now) c.args.first c.args.most c.loop-left.left within) in
    emitted_more _ _ _ _ _ _ next c.in_ok-push_sums.ensures.ok
