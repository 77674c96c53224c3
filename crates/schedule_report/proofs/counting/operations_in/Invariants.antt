use Rattle.std.proofs.Common.{◌≡◌, ◌+◌, ◌≤◌, drop}
use Rattle.qc_base.specs.Counting.{how_many}
use Rattle.schedule_report.specs.Counts.{is_operation}
use Rattle.schedule_report.proofs.counting.operations_in.Given as goal

abbrev pub invariant-loop-action : goal.invariant-loop-action
invariant-loop-action l = record {
  few : l.count ≤ l.action-index;
  counted : l.count + how_many is_operation (drop l.action-index l.actions) ≡ how_many is_operation l.actions;
}
