-- The qubits that labels name.
use Rattle.std.specs.Prelude.{ℕ, ◌+◌, List, [], ◌∷◌, Result, Ok}
use Rattle.std.specs.Option.{option_map, ok_or}
use Rattle.qc_base.specs.declared.ids.Qubit.{Qubit}
use Rattle.circuit_core.specs.Circuit.{CircuitValue}
use Rattle.circuit_core.specs.Label.{labelled}
use Rattle.placement.specs.declared.fault.PlaceFault.{PlaceFault}
use Rattle.placement.specs.declared.fault.PlaceFault.TheVariants.{UnknownQubit}
use Rattle.placement.specs.Faults.{◌>>=◌}
use Rattle.placement.specs.Filling.{qubit_of}

abbrev pub unknown : ℕ → List ℕ → PlaceFault
unknown zone label = UnknownQubit (record { 0 = zone }) label

-- the qubit of a label that is in that zone
abbrev pub qubit_named : CircuitValue → ℕ → List ℕ → Result Qubit PlaceFault
qubit_named circuit zone label = ok_or (option_map qubit_of (labelled circuit label)) (unknown zone label)

-- the qubits of that zone's labels, or the first label that names none
abbrev pub qubits_named : CircuitValue → ℕ → List (List ℕ) → Result (List Qubit) PlaceFault
qubits_named circuit zone [] = Ok []
qubits_named circuit zone (label ∷ labels) = do
  qubit ← qubit_named circuit zone label
  qubits ← qubits_named circuit zone labels
  Ok (qubit ∷ qubits)

-- the same of the zones from that one on
abbrev pub lists_named : CircuitValue → ℕ → List (List (List ℕ)) → Result (List (List Qubit)) PlaceFault
lists_named circuit zone [] = Ok []
lists_named circuit zone (labels ∷ table) = do
  qubits ← qubits_named circuit zone labels
  lists ← lists_named circuit (zone + 1) table
  Ok (qubits ∷ lists)
