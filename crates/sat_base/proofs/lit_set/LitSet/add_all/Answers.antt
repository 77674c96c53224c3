use Rattle.sat_base.proofs.Sets.{more_literals, AddsAll-more}
use Rattle.sat_base.proofs.lit_set.LitSet.add_all.Goals as goal

pub loop-lit-preserved : goal.loop-lit-preserved
loop-lit-preserved c =
    rw (more_literals c.args.clause.now c.loop-lit.lit-index c.lit-item.result c.loop-lit-test.true c.lit-item.is)
    (AddsAll-more _ _ c.loop-lit.self c.lit-item.result c.insert.new.self c.loop-lit.invariant c.in_ok-insert.ensures.ok)
