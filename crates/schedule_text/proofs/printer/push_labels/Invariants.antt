use Rattle.std.proofs.Common.{◌≡◌, ◌++◌, take}
use Rattle.schedule_text.specs.Text.{labels_text}
use Rattle.schedule_text.proofs.printer.push_labels.Given as goal

abbrev pub invariant-loop-qubit : goal.invariant-loop-qubit
invariant-loop-qubit l = l.out.items ≡ l.fn.out.items ++ labels_text l.circuit (take l.qubit-index l.list)
