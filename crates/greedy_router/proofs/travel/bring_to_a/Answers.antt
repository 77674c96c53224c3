use Rattle.greedy_router.proofs.Travelling.{few_ions, lower_passes, lower, lowest}
use Rattle.greedy_router.proofs.travel.bring_to_a.Goals as goal

pub index_of-index-requires-clause-few : goal.index_of-index-requires-clause-few
index_of-index-requires-clause-few c = few_ions c.args.setting.now c.args.played.now c.args.zone.0 c.list.result.now c.requires.trap c.requires.played c.requires.zone c.list.ensures

pub act-requires-clause-passes : goal.act-requires-clause-passes
act-requires-clause-passes c = lower_passes c.args.setting.now c.loop-index.played.config.lists c.args.zone c.args.ion c.loop-index.index c.requires.zone c.loop-index.invariant.at c.loop-index-test.true

pub loop-index-preserved : goal.loop-index-preserved
loop-index-preserved c =
    let next = lower c.args.setting.now c.args.played.now c.loop-index.played c.act.new.self c.args.zone c.args.ion c.loop-index.index c.requires.zone c.loop-index.invariant.carries c.loop-index.invariant.at c.loop-index-test.true
    c.in_ok-act.ensures in
    record { carries = next.carries; at = next.at }

pub returns : goal.returns
returns c = lowest c.args.setting.now c.args.played.now c.loop-index.played c.args.zone c.args.ion c.loop-index.index c.loop-index.invariant.carries c.loop-index.invariant.at c.loop-index-test.false
