use Rattle.std.proofs.Common.{◌≡◌, ◌++◌, List, length, take}
use Rattle.qc_base.specs.declared.ids.Qubit.{Qubit}
use Rattle.circuit_core.specs.Op.{qubits_of}
use Rattle.circuit_core.specs.QubitSet.{AreFlags}
use Rattle.circuit_core.proofs.qubit_set.QubitSet.add.Given as goal

abbrev pub invariant-loop-index : goal.invariant-loop-index
invariant-loop-index l = record {
  len : length l.self-inside.flags ≡ 128;
  flags : (qubits : List Qubit) → AreFlags l.initial.self-inside.flags qubits → AreFlags l.self-inside.flags (qubits ++ take l.index (qubits_of l.op));
}
