use Rattle.std.proofs.Common.{arith, refl}
use Rattle.gate_order.proofs.Rows.{added_more}
use Rattle.gate_order.proofs.after.add.Goals as goal

pub loop-before-preserved : goal.loop-before-preserved
loop-before-preserved c =
    rw (c.in_ok-push.ensures, ← c.index-lists-before.is)
    (added_more c.args.near.now c.loop-before.before-index c.args.number _ c.args.lists.now c.loop-before.lists c.index-lists-before.result c.loop-before.invariant
    (omega (arith, c.requires c.loop-before.before-index (record { 0 = 0 }) c.loop-before-test.true, c.loop-before.auto.lists)) c.index-lists-before.is refl)
