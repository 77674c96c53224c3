use Rattle.std.proofs.Common.{take}
use Rattle.greedy_router.specs.Routing.{AreJobs}
use Rattle.greedy_router.proofs.job.jobs.Given as goal

abbrev pub invariant-loop-op : goal.invariant-loop-op
invariant-loop-op l = AreJobs l.placement (take l.op-index l.op-items) l.jobs.items
