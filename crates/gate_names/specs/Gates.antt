-- Gates, as they are declared: what they take.
use Rattle.std.specs.Prelude.{ℕ, Bool, true, false}
use Rattle.gate_names.specs.declared.gate.Gate.{Gate}
use Rattle.gate_names.specs.declared.gate.Gate.TheVariants.{Universal, ControlledNot, Opaque, Body}

abbrev pub param_count : Gate → ℕ
param_count Universal = 3
param_count ControlledNot = 0
param_count (Opaque name params qubits) = params
param_count (Body params qubits items) = params

abbrev pub qubit_count : Gate → ℕ
qubit_count Universal = 1
qubit_count ControlledNot = 2
qubit_count (Opaque name params qubits) = qubits
qubit_count (Body params qubits items) = qubits

-- ---- for private functions

abbrev pub has_body : Gate → Bool
has_body Universal = false
has_body ControlledNot = false
has_body (Opaque name params qubits) = false
has_body (Body params qubits items) = true
