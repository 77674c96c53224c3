use Rattle.std.proofs.Common.{◌≡◌, ◌++◌, drop}
use Rattle.circuit_core.specs.Op.{qubits_of}
use Rattle.schedule_text.specs.Text.{ions_text}
use Rattle.schedule_text.proofs.printer.push_ions.Given as goal

abbrev pub invariant-loop-index : goal.invariant-loop-index
invariant-loop-index l =
    l.out.items ++ ions_text l.placement (drop l.index (qubits_of l.op)) ≡ l.fn.out.items ++ ions_text l.placement (qubits_of l.op)
