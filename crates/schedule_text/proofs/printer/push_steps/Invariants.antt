use Rattle.std.proofs.Common.{◌≡◌, ◌+◌, ◌++◌, drop}
use Rattle.schedule_text.specs.Text.{step_lines}
use Rattle.schedule_text.proofs.printer.push_steps.Given as goal

abbrev pub invariant-loop-k : goal.invariant-loop-k
invariant-loop-k l =
    l.out.items ++ step_lines l.setting (l.k + 1) (drop l.k l.steps) ≡ l.fn.out.items ++ step_lines l.setting 1 l.steps
