-- The table of names.
use Rattle.std.specs.Prelude.{ℕ, ◌+◌, List, [], ◌∷◌, ◌++◌, length, Option, None, is_some, if◌then◌else◌, Result, Ok, Err}
use Rattle.std.specs.Option.{option_map, option_or}
use Rattle.gate_names.specs.declared.gate.Gate.{Gate as TheGate}
use Rattle.gate_names.specs.declared.names.Meaning.{Meaning}
use Rattle.gate_names.specs.declared.names.Meaning.TheVariants.{Quantum, Classical, Gate}
use Rattle.gate_names.specs.declared.cause.Cause.{Cause}
use Rattle.gate_names.specs.declared.cause.Cause.TheVariants.{Undeclared, Redeclared, Kind}
use Rattle.gate_names.specs.Causes.{◌>>=◌, refuse_if, found_or}
use Rattle.gate_names.specs.Terms.{position_of}
use Rattle.gate_names.specs.Entries.{Table, meaning_in}
use Rattle.gate_names.specs.Library.{library_names, first_library_gate}

-- the gate of the library with that name
abbrev pub library_meaning : List ℕ → Option Meaning
library_meaning name = option_map (λ k. Gate (first_library_gate + k)) (position_of library_names name)

-- What a name means: what the file declared, or else a gate of the library where that was included.
abbrev pub meaning_of : Table → List ℕ → Option Meaning
meaning_of table name = option_or (meaning_in table.names name) (if table.included then library_meaning name else None)

-- a name that the file did not declare before
abbrev pub fresh : Table → List ℕ → Result (Unit {0}) Cause
fresh table name = refuse_if (is_some (meaning_in table.names name)) Redeclared

-- ---- a meaning of the kind that is meant

abbrev pub as_gate : Meaning → Result ℕ Cause
as_gate (Gate number) = Ok number
as_gate (Quantum first size) = Err Kind
as_gate (Classical creg first size) = Err Kind

-- the number of the gate of that name
abbrev pub gate_named : Table → List ℕ → Result ℕ Cause
gate_named table name = found_or (meaning_of table name) Undeclared >>= as_gate

abbrev pub as_creg : Meaning → Result ℕ Cause
as_creg (Classical creg first size) = Ok creg
as_creg (Quantum first size) = Err Kind
as_creg (Gate number) = Err Kind

-- the number of the classical register of that name
abbrev pub creg_named : Table → List ℕ → Result ℕ Cause
creg_named table name = found_or (meaning_of table name) Undeclared >>= as_creg

-- ---- declarations

-- the table with a name more
abbrev pub named : Table → List ℕ → Meaning → Table
named table name meaning = record table { names = table.names ++ (name, meaning) ∷ [] }

-- the table with a gate more, under that name
abbrev pub with_gate : Table → List ℕ → TheGate → Table
with_gate table name gate =
    record table { names = table.names ++ (name, Gate (length table.gates)) ∷ []; gates = table.gates ++ gate ∷ [] }

-- ---- for private functions

-- the meaning is no gate
abbrev pub IsRegister : Meaning → Type 0
IsRegister (Quantum first size) = Unit {0}
IsRegister (Classical creg first size) = Unit {0}
IsRegister (Gate number) = ⊥
