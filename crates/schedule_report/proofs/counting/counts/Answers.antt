use Rattle.schedule_report.proofs.Counted.{counts_are}
use Rattle.schedule_report.proofs.counting.counts.Goals as goal

pub returns : goal.returns
returns c =
    counts_are c.args.schedule.now c.steps-steps.result.now c.loop-step.step-index c.loop-step.actions c.loop-step.ops
    c.steps-steps.ensures c.loop-step-test.false c.loop-step.invariant.small_actions c.loop-step.invariant.small_ops
    c.loop-step.invariant.actions c.loop-step.invariant.ops
