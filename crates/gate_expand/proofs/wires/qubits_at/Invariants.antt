use Rattle.std.proofs.Common.{◌≡◌, map, take}
use Rattle.gate_expand.specs.Arguments.{qubit_at}
use Rattle.gate_expand.proofs.wires.qubits_at.Given as goal

abbrev pub invariant-loop-one : goal.invariant-loop-one
invariant-loop-one l = l.qubits.items ≡ map (qubit_at l.index) (take l.one-index l.wires)
