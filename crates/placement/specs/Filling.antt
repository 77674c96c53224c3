-- Zones that are filled with qubits in order.
use Rattle.std.specs.Prelude.{ℕ, ◌+◌, ◌-◌, List, [], ◌∷◌, map, take, drop}
use Rattle.std.specs.List.{range_with_len}
use Rattle.qc_base.specs.declared.ids.Qubit.{Qubit}
use Rattle.circuit_core.specs.Circuit.{CircuitValue, qubit_count}
use Rattle.trap_parts.specs.declared.parts.ZonePart.{ZonePart}

abbrev pub qubit_of : ℕ → Qubit
qubit_of k = record { 0 = k }

-- the qubits of a circuit in declared order
abbrev pub declared_qubits : CircuitValue → List Qubit
declared_qubits circuit = map qubit_of (range_with_len 0 (qubit_count circuit))

-- how many qubits a zone takes: two places stay free
abbrev pub share : ZonePart → ℕ
share zone = zone.capacity - 2

-- zones in order, each with as many as it takes
abbrev pub filled : List ZonePart → List Qubit → List (List Qubit)
filled [] qubits = []
filled (zone ∷ zones) qubits = take (share zone) qubits ∷ filled zones (drop (share zone) qubits)

-- how many qubits they take
abbrev pub room : List ZonePart → ℕ
room [] = 0
room (zone ∷ zones) = share zone + room zones
