use Rattle.std.proofs.Common.{◌≡◌, false, List, take}
use Rattle.qc_base.specs.declared.ids.Qubit.{Qubit}
use Rattle.circuit_core.specs.Op.{qubits_of}
use Rattle.circuit_core.specs.Deciding.{have_common}
use Rattle.circuit_core.specs.QubitSet.{AreFlags}
use Rattle.circuit_core.proofs.qubit_set.QubitSet.meets.Given as goal

abbrev pub invariant-loop-index : goal.invariant-loop-index
invariant-loop-index l = (qubits : List Qubit) → AreFlags l.self-inside.flags qubits → have_common qubits (take l.index (qubits_of l.op)) ≡ false
