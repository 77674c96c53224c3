use Rattle.std.proofs.Common.{◌+◌, ◌-◌, ◌<◌, arith}
use Rattle.at_most.specs.Sequential.{carried}
use Rattle.at_most.specs.AtMost.{AddsPrefix}
use Rattle.at_most.proofs.Emitted.{emitted_same, emitted_more, emitted_within, on_err}
use Rattle.at_most.proofs.Counter.{carried_step}
use Rattle.at_most.proofs.sequential.push_carried.Goals as goal

pub returns-in_err-push_both-clause-err : goal.returns-in_err-push_both-clause-err
returns-in_err-push_both-clause-err c =
    let within : c.loop-place.place < c.args.k - 1 = omega arith in
    let next = emitted_same _ _ _ _ _ c.loop-place.invariant (carried_step c.args.lit c.args.row c.args.k c.loop-place.place within) in
    let all = carried c.args.lit c.args.row (c.args.row + c.args.k) (c.args.k - 1) in
    let part = rw (c.negated.ensures, c.new.ensures, c.new-one_more.ensures, c.new-in-loop-place.ensures) at c.in_err-push_both.ensures.err in
    on_err c.from_residual.result (AddsPrefix c.args.out.now c.push_both.new.out all)
    (emitted_within _ _ _ _ _ _ next part)

pub loop-place-preserved : goal.loop-place-preserved
loop-place-preserved c =
    let within : c.loop-place.place < c.args.k - 1 = omega arith in
    let next = emitted_same _ _ _ _ _ c.loop-place.invariant (carried_step c.args.lit c.args.row c.args.k c.loop-place.place within) in
    let whole = rw (c.negated.ensures, c.new.ensures, c.new-one_more.ensures, c.new-in-loop-place.ensures) at c.in_ok-push_both.ensures.ok in
    emitted_more _ _ _ _ _ _ next whole
