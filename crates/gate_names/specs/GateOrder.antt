-- ---- for private functions: each gate calls earlier ones only.
use Rattle.std.specs.Prelude.{◌≡◌, ℕ, ◌<◌, List, slice_get, Some, All}
use Rattle.gate_names.specs.declared.gate.Gate.{Gate}
use Rattle.gate_names.specs.declared.gate.Gate.TheVariants.{Universal, ControlledNot, Opaque, Body}
use Rattle.gate_names.specs.declared.gate.Item.{Item}
use Rattle.gate_names.specs.declared.gate.Item.TheVariants.{Call, Barrier}

abbrev pub IsCallBelow : ℕ → Item → Type 0
IsCallBelow bound (Call gate params qubits) = gate < bound
IsCallBelow bound (Barrier qubits) = Unit {0}

abbrev pub CallsBelow : ℕ → Gate → Type 0
CallsBelow bound Universal = Unit {0}
CallsBelow bound ControlledNot = Unit {0}
CallsBelow bound (Opaque name params qubits) = Unit {0}
CallsBelow bound (Body params qubits items) = All (IsCallBelow bound) items

abbrev pub AreInOrder : List Gate → Type 0
AreInOrder gates = (number : ℕ) (gate : Gate) → slice_get gates number ≡ Some gate → CallsBelow number gate
