use Rattle.greedy_router.proofs.Rounds.{jobs_more}
use Rattle.greedy_router.proofs.job.jobs.Goals as goal

pub loop-op-preserved : goal.loop-op-preserved
loop-op-preserved c =
    let more = jobs_more c.args.placement.now c.ops-op-items.result.now c.loop-op.jobs.items c.loop-op.op-index c.op-item.result c.job_of.result c.loop-op.invariant c.loop-op-test.true c.op-item.is c.job_of.ensures in
    rw c.in_ok-push.ensures.items more
