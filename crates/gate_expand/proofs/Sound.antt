-- What holds of all that the statements of a program declared and made.
use Rattle.std.proofs.Common.{◌≡◌, ◌≢◌, ℕ, ◌+◌, ◌<◌, ◌≤◌, List, length, map, slice_get, Some, Ok, All, AllPairs, IsTrue}
use Rattle.qc_base.specs.declared.ids.Qubit.{Qubit}
use Rattle.circuit_core.specs.declared.angle.Angle.{Angle}
use Rattle.circuit_core.specs.declared.circuit.Reg.{Reg}
use Rattle.circuit_core.specs.Angle.{reals_of}
use Rattle.circuit_core.specs.Circuit.{IsRegister, HaveNamesOfTheirOwn, all_nodes, size_of}
use Rattle.circuit_core.specs.Identifier.{is_identifier}
use Rattle.circuit_core.specs.Op.{IsAngle, IsOp}
use Rattle.circuit_core.specs.Reals.{IsShortReal}
use Rattle.gate_expand.specs.declared.expansion.Expansion.{Expansion}
use Rattle.gate_names.specs.declared.gate.Gate.{Gate}
use Rattle.gate_names.specs.declared.gate.Gate.TheVariants.{Universal, ControlledNot, Opaque, Body}
use Rattle.gate_names.specs.declared.gate.Item.{Item}
use Rattle.gate_names.specs.declared.gate.Item.TheVariants.{Call, Barrier}
use Rattle.gate_names.specs.declared.names.Meaning.{Meaning}
use Rattle.gate_names.specs.declared.names.Meaning.TheVariants as meaning
use Rattle.gate_expand.specs.declared.resolved.Resolved.{Resolved}
use Rattle.gate_expand.specs.declared.resolved.Resolved.TheVariants as resolved
use Rattle.gate_names.specs.declared.term.Term.{Term}
use Rattle.gate_expand.specs.declared.wires.Wires.{Wires}
use Rattle.gate_expand.specs.declared.wires.Wires.TheVariants.{One, Each}
use Rattle.gate_expand.specs.Arguments.{qubit_at, wire_at}
use Rattle.gate_names.specs.Entries.{Entries, Table, meaning_in}
use Rattle.gate_expand.specs.Expansion.{Performing}
use Rattle.gate_names.specs.Gates.{param_count, qubit_count}
use Rattle.gate_expand.specs.Making.{MadeValue, Maker}
use Rattle.gate_expand.specs.Angles.{put}

-- members of a kind, no two of them the same
pub record AreApart {X : Type 0} (P : X → Type 0) (xs : List X) : Type 0 where
  pub each : All P xs
  pub differ : AllPairs (λ (x y : X). x ≢ y) xs

abbrev pub IsBelow : ℕ → ℕ → Type 0
IsBelow count k = k < count

abbrev pub IsQubit : ℕ → Qubit → Type 0
IsQubit count qubit = qubit.0 < count

-- ---- expressions

-- its reals are short
abbrev pub HasReals : Angle → Type 0
HasReals angle = All IsShortReal (reals_of angle)

-- its reals are short whatever angles with short reals are put for its parameters
abbrev pub IsPut : Term → Type 0
IsPut term = (angles : List Angle) → All HasReals angles → HasReals (put angles term)

-- ---- gates

-- the gate of that number takes so many parameters and qubits
pub record Takes (gates : List Gate) (number params qubits : ℕ) : Type 0 where
  pub gate : Gate
  pub there : slice_get gates number ≡ Some gate
  pub params_fit : params ≡ param_count gate
  pub qubits_fit : qubits ≡ qubit_count gate

-- an item of a body with so many qubits
abbrev pub IsItem : List Gate → ℕ → Item → Type 0
IsItem gates count (Call gate params positions) =
    Takes gates gate (length params) (length positions) × All IsPut params × AreApart (IsBelow count) positions
IsItem gates count (Barrier positions) = (1 ≤ length positions) × AreApart (IsBelow count) positions

-- a gate among these
abbrev pub IsSoundGate : List Gate → Gate → Type 0
IsSoundGate gates Universal = Unit {0}
IsSoundGate gates ControlledNot = Unit {0}
IsSoundGate gates (Opaque name params qubits) = IsTrue (is_identifier name) × (params + qubits ≤ 16)
IsSoundGate gates (Body params qubits items) = All (IsItem gates qubits) items

-- ---- what was made

-- operations on so many qubits, bits and classical registers, within the limits
pub record IsMade (qubits bits cregs : ℕ) (made : MadeValue) : Type 0 where
  pub few : length made.ops ≤ 10000
  pub each : All (IsOp qubits bits cregs) made.ops
  pub nodes : all_nodes made.ops ≤ 1000000

-- it makes such operations alone
abbrev pub Keeps : ℕ → ℕ → ℕ → Maker → Type 0
Keeps qubits bits cregs maker =
    (made now : MadeValue) → IsMade qubits bits cregs made → maker made ≡ Ok now → IsMade qubits bits cregs now

-- applications to as many angles and qubits as a gate takes make such operations alone
abbrev pub PerformsSoundly : ℕ → ℕ → ℕ → List Gate → Performing → Type 0
PerformsSoundly count bits cregs gates perform =
    (gate : ℕ) (angles : List Angle) (qubits : List Qubit) → Takes gates gate (length angles) (length qubits)
    → All IsAngle angles → AreApart (IsQubit count) qubits → Keeps count bits cregs (perform gate angles qubits)

-- qubits or bits below so many; a whole register has one at least
abbrev pub AreWires : ℕ → Wires → Type 0
AreWires count (One number) = number < count
AreWires count (Each first size) = (1 ≤ size) × (first + size ≤ count)

-- an operation of the file, on so many qubits and bits
abbrev pub IsResolved : List Gate → ℕ → ℕ → Resolved → Type 0
IsResolved gates count bit_count (resolved.Application gate params wires times) =
    Takes gates gate (length params) (length wires) × All IsPut params
    × ((index : ℕ) → index < times → AreApart (IsQubit count) (map (qubit_at index) wires))
IsResolved gates count bit_count (resolved.Measure qubits bits creg times) =
    (index : ℕ) → index < times → (wire_at index qubits < count) × (wire_at index bits < bit_count)
IsResolved gates count bit_count (resolved.Reset qubits times) = (index : ℕ) → index < times → wire_at index qubits < count

-- ---- names

-- what a name means is there
abbrev pub IsInRange : ℕ → ℕ → ℕ → ℕ → Meaning → Type 0
IsInRange qubits bits cregs gates (meaning.Quantum first size) = (1 ≤ size) × (first + size ≤ qubits)
IsInRange qubits bits cregs gates (meaning.Classical creg first size) = (creg < cregs) × (1 ≤ size) × (first + size ≤ bits)
IsInRange qubits bits cregs gates (meaning.Gate number) = number < gates

pub record IsSoundTable (qubits bits cregs : ℕ) (table : Table) : Type 0 where
  pub meanings : All (λ (e : List ℕ × Meaning). IsInRange qubits bits cregs (length table.gates) e.1) table.names
  pub each : All (IsSoundGate table.gates) table.gates
  pub universal : slice_get table.gates 0 ≡ Some Universal
  pub controlled : slice_get table.gates 1 ≡ Some ControlledNot
  pub library : 36 ≤ length table.gates

-- ---- registers

abbrev pub IsQuantum : Meaning → Type 0
IsQuantum (meaning.Quantum first size) = Unit {0}
IsQuantum (meaning.Classical creg first size) = ⊥
IsQuantum (meaning.Gate number) = ⊥

abbrev pub IsClassical : Meaning → Type 0
IsClassical (meaning.Quantum first size) = ⊥
IsClassical (meaning.Classical creg first size) = Unit {0}
IsClassical (meaning.Gate number) = ⊥

-- the name has a meaning of a kind
pub record IsNamed (Kind : Meaning → Type 0) (names : Entries) (name : List ℕ) : Type 0 where
  pub means : Meaning
  pub there : meaning_in names name ≡ Some means
  pub kind : Kind means

-- registers of a kind
pub record AreRegisters (Kind : Meaning → Type 0) (names : Entries) (regs : List Reg) : Type 0 where
  pub each : All IsRegister regs
  pub own : HaveNamesOfTheirOwn regs
  pub named : All (λ (reg : Reg). IsNamed Kind names reg.name) regs

-- ---- all of it

pub record IsSound (now : Expansion) : Type 0 where
  pub quantum : AreRegisters IsQuantum now.table.names now.qregs
  pub classical : AreRegisters IsClassical now.table.names now.cregs
  pub few_qubits : size_of now.qregs ≤ 128
  pub few_bits : size_of now.cregs ≤ 4096
  pub names : IsSoundTable (size_of now.qregs) (size_of now.cregs) (length now.cregs) now.table
  pub ops : IsMade (size_of now.qregs) (size_of now.cregs) (length now.cregs) now.made
