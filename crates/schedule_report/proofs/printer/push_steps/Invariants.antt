use Rattle.std.proofs.Common.{◌≡◌, ◌+◌, ◌++◌, drop}
use Rattle.schedule_report.specs.Report.{step_lines}
use Rattle.schedule_report.proofs.printer.push_steps.Given as goal

abbrev pub invariant-loop-k : goal.invariant-loop-k
invariant-loop-k l = l.out.items ++ step_lines (l.k + 1) (drop l.k l.steps) ≡ l.initial.out.items ++ step_lines 1 l.steps
