use Rattle.std.proofs.Common.{◌≡◌, ◌++◌, drop}
use Rattle.schedule_text.specs.Text.{place_lines}
use Rattle.schedule_text.proofs.printer.push_place_lines.Given as goal

abbrev pub invariant-loop-k : goal.invariant-loop-k
invariant-loop-k l = l.out.items ++ place_lines l.circuit (drop l.k l.zones) (drop l.k l.lists) ≡ l.fn.out.items ++ place_lines l.circuit l.zones l.lists
