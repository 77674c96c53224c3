use Rattle.std.proofs.Common.{◌≡◌, drop}
use Rattle.gate_expand.specs.Arguments.{with_all, distinct_qubits}
use Rattle.gate_expand.proofs.wires.distinct.Given as goal

abbrev pub invariant-loop-one : goal.invariant-loop-one
invariant-loop-one l = with_all l.qubits.items (drop l.one-index l.wires) ≡ distinct_qubits l.wires
