use Rattle.std.proofs.Common.{take}
use Rattle.circuit_core.specs.Op.{qubits_of}
use Rattle.circuit_core.specs.LastOps.{IsNoted}
use Rattle.circuit_core.proofs.Wires.{Has}
use Rattle.circuit_core.proofs.last_ops.note_on_qubits.Given as goal

abbrev pub invariant-loop-index : goal.invariant-loop-index
invariant-loop-index l = IsNoted l.initial.table l.table l.number (Has (take l.index (qubits_of l.op)))
