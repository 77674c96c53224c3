use Rattle.sat_base.proofs.LitSets.{different_literals, equal_literals}
use Rattle.sat_base.proofs.Sets.{more_literals, AddsOthers-more, AddsOthers-skip}
use Rattle.sat_base.proofs.lit_set.LitSet.add_others.Goals.{then-ne+in_ok-insert, else-ne}
use Rattle.sat_base.proofs.lit_set.LitSet.add_others.Goals as goal

pub loop-lit-preserved : goal.loop-lit-preserved
loop-lit-preserved c =
    rw (more_literals c.args.clause.now c.loop-lit.lit-index c.lit-item.result c.loop-lit-test.true c.lit-item.is)
    (elim c.if-ne.branch [
      | then-ne+in_ok-insert w ↦ rw w.self-is (AddsOthers-more _ _ c.loop-lit.self c.args.but c.lit-item.result w.insert.new.self c.loop-lit.invariant (different_literals _ _ _ c.ne.ensures w.if-ne.true) w.in_ok-insert.ensures.ok)
      | else-ne w ↦ rw w.self-is (AddsOthers-skip _ _ c.loop-lit.self c.args.but c.lit-item.result c.loop-lit.invariant (equal_literals _ _ _ c.ne.ensures w.if-ne.false))
    ])
