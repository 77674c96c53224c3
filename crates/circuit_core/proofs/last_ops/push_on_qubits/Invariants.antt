use Rattle.std.proofs.Common.{◌≡◌, ◌++◌, take}
use Rattle.circuit_core.specs.Op.{qubits_of}
use Rattle.circuit_core.specs.LastOps.{last_on_qubits}
use Rattle.circuit_core.proofs.last_ops.push_on_qubits.Given as goal

abbrev pub invariant-loop-index : goal.invariant-loop-index
invariant-loop-index l = l.near.items ≡ l.initial.near.items ++ last_on_qubits l.table (take l.index (qubits_of l.op))
