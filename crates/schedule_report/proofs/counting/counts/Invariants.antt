use Rattle.std.proofs.Common.{◌≡◌, ◌+◌, ◌<◌, ◌^◌, drop, length}
use Rattle.qc_base.specs.Counting.{how_many}
use Rattle.step_rules.specs.Play.{actions_of}
use Rattle.schedule_report.specs.Counts.{capped, is_operation}
use Rattle.schedule_report.proofs.counting.counts.Given as goal

abbrev pub invariant-loop-step : goal.invariant-loop-step
invariant-loop-step l = record {
  actions : capped (l.actions + length (actions_of (drop l.step-index l.steps))) ≡ capped (length (actions_of l.steps));
  ops : capped (l.ops + how_many is_operation (actions_of (drop l.step-index l.steps))) ≡ capped (how_many is_operation (actions_of l.steps));
  small_actions : l.actions < 2 ^ 64;
  small_ops : l.ops < 2 ^ 64;
}
