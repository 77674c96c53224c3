-- The circuit and the trap whose names a line says.
use Rattle.std.specs.Prelude.{ℕ, ◌-◌, nat_lt, if◌then◌else◌, List, [], ◌∷◌, Option, slice_get, codes, decimal}
use Rattle.std.specs.Option.{option_map, option_map_or}
use Rattle.qc_base.specs.declared.ids.Qubit.{Qubit}
use Rattle.qc_base.specs.declared.ids.PlaceId.{PlaceId}
use Rattle.circuit_core.specs.declared.circuit.Reg.{Reg}
use Rattle.circuit_core.specs.Circuit.{CircuitValue}
use Rattle.trap_parts.specs.Parts.{TrapValue}
use Rattle.run_answers.specs.declared.names.Names.{Names as Lent}
use Rattle.run_answers.specs.Line.{name_text}

-- what was read, where it was
pub record Names : Type 0 where
  pub circuit : Option CircuitValue
  pub trap : Option TrapValue

-- what the names that are handed over refer to
abbrev pub names_of : Lent → Names
names_of names = record {
  circuit = option_map (λ circuit. circuit.now) names.circuit;
  trap = option_map (λ trap. trap.now) names.trap;
}

-- the name of the zone of that number in the trap
abbrev pub name_in : TrapValue → ℕ → List ℕ
name_in trap zone = option_map_or (λ part. part.name) (slice_get trap.zones zone) []

-- the name of a zone, where it was read
abbrev pub zone_name : Names → PlaceId → List ℕ
zone_name names zone = option_map_or (λ trap. name_in trap zone.0) names.trap []

-- an index of a register, in pieces
abbrev pub index_said : List ℕ → ℕ → List (List ℕ)
index_said name index = name_text name ∷ codes "[" ∷ decimal index ∷ codes "]" ∷ []

-- the label of a number, counted through these registers; nothing where they have fewer
abbrev pub label_said_in : List Reg → ℕ → List (List ℕ)
label_said_in [] index = []
label_said_in (reg ∷ regs) index =
    if nat_lt index reg.size then index_said reg.name index else label_said_in regs (index - reg.size)

-- the label of a qubit, where it was read: the register's name is cut by itself
abbrev pub label_said : Names → Qubit → List (List ℕ)
label_said names qubit = option_map_or (λ circuit. label_said_in circuit.qregs qubit.0) names.circuit []
