-- Qubits in the order in which gates on two qubits first use them.
use Rattle.std.specs.Prelude.{Bool, ◌==◌, not, List, [], ◌∷◌, ◌++◌, Option, None, Some}
use Rattle.std.specs.List.{filter, flat_map}
use Rattle.qc_base.specs.declared.ids.Qubit.{Qubit}
use Rattle.circuit_core.specs.declared.op.Op.{Op}
use Rattle.circuit_core.specs.declared.op.Op.TheVariants.{U, Cx, Opaque, Measure, Reset, Barrier}
use Rattle.circuit_core.specs.Circuit.{CircuitValue}
use Rattle.placement.specs.Filling.{declared_qubits}

abbrev pub two_or_none : Qubit → Option Qubit → List Qubit
two_or_none first None = []
two_or_none first (Some second) = first ∷ second ∷ []

-- the operands of a gate on two qubits, in their order; any other operation has none
abbrev pub operands : Op → List Qubit
operands (Cx control target cond) = control ∷ target ∷ []
operands (Opaque name params first second cond) = two_or_none first second
operands (U theta phi lambda qubit cond) = []
operands (Measure qubit bit cond) = []
operands (Reset qubit cond) = []
operands (Barrier qubits) = []

abbrev pub is_other : Qubit → Qubit → Bool
is_other qubit other = not (other.0 == qubit.0)

-- each qubit once, where it is first
abbrev pub without_repeats : List Qubit → List Qubit
without_repeats [] = []
without_repeats (qubit ∷ qubits) = qubit ∷ filter (is_other qubit) (without_repeats qubits)

-- all uses in order: the operands of the gates on two qubits, and then all qubits
abbrev pub uses_of : CircuitValue → List Qubit
uses_of circuit = flat_map operands circuit.ops ++ declared_qubits circuit

-- the qubits by first use, and then the others in declared order
abbrev pub by_first_use : CircuitValue → List Qubit
by_first_use circuit = without_repeats (uses_of circuit)
