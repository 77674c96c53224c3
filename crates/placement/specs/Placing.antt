-- The placement of a rule, or why there is none.
use Rattle.std.specs.Prelude.{◌≡◌, ℕ, nat_le, List, length, Option, None, Some, Result, Ok, Err, if◌then◌else◌}
use Rattle.qc_base.specs.declared.ids.Qubit.{Qubit}
use Rattle.circuit_core.specs.Circuit.{CircuitValue, qubit_count}
use Rattle.trap_parts.specs.Parts.{TrapValue}
use Rattle.step_rules.specs.declared.placement.GivenFault.{GivenFault}
use Rattle.step_rules.specs.Placement.{placement_of}
use Rattle.placement.specs.declared.fault.PlaceFault.{PlaceFault}
use Rattle.placement.specs.declared.fault.PlaceFault.TheVariants.{TooManyQubits, NoTable}
use Rattle.placement.specs.declared.rule.PlaceRule.{PlaceRule}
use Rattle.placement.specs.declared.rule.PlaceRule.TheVariants.{Declared, FirstUse, Given}
use Rattle.placement.specs.Faults.{fault_of, ◌>>=◌}
use Rattle.placement.specs.Filling.{declared_qubits, filled, room}
use Rattle.placement.specs.FirstUse.{by_first_use}
use Rattle.placement.specs.Named.{lists_named}

-- the labels of a trap file: a list for each zone
abbrev pub Table : Type 0
Table = List (List (List ℕ))

-- a placement, or why there is none
abbrev pub Placed : Type 0
Placed = Result (List (List Qubit)) PlaceFault

-- the zones filled with the qubits in that order, where there is room for all
abbrev pub filling_of : TrapValue → CircuitValue → List Qubit → Placed
filling_of trap circuit qubits =
    if nat_le (qubit_count circuit) (room trap.zones) then Ok (filled trap.zones qubits)
    else Err (TooManyQubits (qubit_count circuit) (room trap.zones))

abbrev pub checked : Result (List (List Qubit)) GivenFault → Placed
checked (Ok lists) = Ok lists
checked (Err fault) = Err (fault_of fault)

-- the lists, where they are a placement, or why they are none
abbrev pub judged : TrapValue → CircuitValue → List (List Qubit) → Placed
judged trap circuit lists = checked (placement_of trap circuit lists)

-- the qubits that the labels name, where they are a placement
abbrev pub given_of : TrapValue → CircuitValue → Table → Placed
given_of trap circuit table = lists_named circuit 0 table >>= judged trap circuit

-- the placement of the rule, or why it has none
abbrev pub place_by : TrapValue → CircuitValue → PlaceRule → Option Table → Placed
place_by trap circuit Declared table = filling_of trap circuit (declared_qubits circuit)
place_by trap circuit FirstUse table = filling_of trap circuit (by_first_use circuit)
place_by trap circuit Given None = Err NoTable
place_by trap circuit Given (Some table) = given_of trap circuit table

-- a table has a list for each zone
abbrev pub FitsZones : TrapValue → Option Table → Type 0
FitsZones trap table = (labels : Table) → table ≡ Some labels → length labels ≡ length trap.zones
