use Rattle.std.proofs.Common.{◌≡◌, length, arith, subst}
use Rattle.route_find.specs.Search.{AreEnds}
use Rattle.route_find.proofs.Ends.{ends_none, ends_more_at}
use Rattle.route_find.proofs.numbers.ends.Goals as goal

pub loop-number-init : goal.loop-number-init
loop-number-init c = ends_none c.args.channels.now c.args.places c.in_ok-ends.ends.items c.in_ok-ends.ensures

pub loop-number-preserved : goal.loop-number-preserved
loop-number-preserved c =
    rw c.in_ok-push.ensures (ends_more_at c.args.channels.now c.args.places c.loop-number.number c.loop-number.ends.items _ c.index_mut-row.result.now
    c.loop-number.invariant c.requires.below c.loop-number-test.true c.index_mut-row.ensures.value)

pub returns : goal.returns
returns c =
    let all : c.loop-number.number ≡ length c.args.channels.now = omega arith in
    subst (λ n. AreEnds c.args.channels.now c.args.places n c.loop-number.ends.items) all c.loop-number.invariant
