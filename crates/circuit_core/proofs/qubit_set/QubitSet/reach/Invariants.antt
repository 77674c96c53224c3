use Rattle.std.proofs.Common.{List, take}
use Rattle.qc_base.specs.declared.ids.Qubit.{Qubit}
use Rattle.circuit_core.specs.Deciding.{reached}
use Rattle.circuit_core.specs.QubitSet.{AreFlags}
use Rattle.circuit_core.proofs.qubit_set.QubitSet.reach.Given as goal

abbrev pub invariant-loop-op : goal.invariant-loop-op
invariant-loop-op l = (qubits : List Qubit) → AreFlags l.initial.self qubits → AreFlags l.self (reached qubits (take l.op-index l.ops))
