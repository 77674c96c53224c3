use Rattle.std.proofs.Common.{◌≡◌, drop}
use Rattle.std.specs.List.{list_any}
use Rattle.gate_expand.specs.Arguments.{is_qubit}
use Rattle.gate_expand.proofs.wires.contains.Given as goal

abbrev pub invariant-loop-other : goal.invariant-loop-other
invariant-loop-other l = list_any (is_qubit l.qubit) (drop l.other-index l.qubits) ≡ list_any (is_qubit l.qubit) l.qubits
