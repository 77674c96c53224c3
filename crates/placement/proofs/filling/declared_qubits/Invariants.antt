use Rattle.std.proofs.Common.{◌≡◌, map}
use Rattle.std.specs.List.{range_with_len}
use Rattle.placement.specs.Filling.{qubit_of}
use Rattle.placement.proofs.filling.declared_qubits.Given as goal

abbrev pub invariant-loop-number : goal.invariant-loop-number
invariant-loop-number l = l.qubits.items ≡ map qubit_of (range_with_len 0 l.number)
