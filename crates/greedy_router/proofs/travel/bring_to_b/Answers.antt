use Rattle.std.proofs.Common.{arith}
use Rattle.greedy_router.proofs.Travelling.{few_ions, upper_within, upper, uppermost}
use Rattle.greedy_router.proofs.travel.bring_to_b.Goals as goal

pub overflow_cast-last : goal.overflow_cast-last
overflow_cast-last c = omega (arith, few_ions c.args.setting.now c.args.played.now c.args.zone.0 c.list.result.now c.requires.trap c.requires.played c.requires.zone c.list.ensures)

pub index_of-index-requires-clause-few : goal.index_of-index-requires-clause-few
index_of-index-requires-clause-few c = few_ions c.args.setting.now c.args.played.now c.args.zone.0 c.list-2.result.now c.requires.trap c.requires.played c.requires.zone c.list-2.ensures

pub overflow_add-index : goal.overflow_add-index
overflow_add-index c =
    omega (arith, c.loop-index-test.true, few_ions c.args.setting.now c.args.played.now c.args.zone.0 c.list.result.now c.requires.trap c.requires.played c.requires.zone c.list.ensures)

pub loop-index-preserved : goal.loop-index-preserved
loop-index-preserved c =
    let next = upper c.args.setting.now c.args.played.now c.loop-index.played c.act.new.self c.args.zone c.args.ion c.loop-index.index c.requires.zone c.loop-index.invariant.carries c.loop-index.invariant.at
    (upper_within c.args.setting.now c.args.played.now c.loop-index.played c.args.zone c.args.ion c.loop-index.index c.list.result.now c.loop-index.invariant.carries c.list.ensures c.loop-index-test.true)
    c.in_ok-act.ensures in
    record { carries = next.carries; at = next.at }

pub returns : goal.returns
returns c = uppermost c.args.setting.now c.args.played.now c.loop-index.played c.args.zone c.args.ion c.loop-index.index c.list.result.now c.loop-index.invariant.carries c.loop-index.invariant.at c.list.ensures c.loop-index-test.false
