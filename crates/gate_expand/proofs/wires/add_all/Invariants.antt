use Rattle.std.proofs.Common.{◌≡◌, ◌+◌, ◌-◌, fold}
use Rattle.gate_expand.specs.Arguments.{with_qubit, each_from}
use Rattle.gate_expand.proofs.wires.add_all.Given as goal

abbrev pub invariant-loop-index : goal.invariant-loop-index
invariant-loop-index l =
    fold with_qubit l.qubits.items (each_from (l.first + l.index) (l.size - l.index)) ≡ fold with_qubit l.fn.qubits.items (each_from l.first l.size)
