-- The last operations on qubits and bits, from which the nearest ones are found: for private functions alone.
use Rattle.std.specs.Prelude.{◌≡◌, ℕ, ◌-◌, ◌<◌, ◌≤◌, nat_lt, if◌then◌else◌, List, [], ◌++◌, length, take, drop, slice_get, slice_index_or, Option, Some, None, IfSome, Contains, ◌⊎◌}
use Rattle.std.specs.List.{flat_map}
use Rattle.std.specs.Option.{option_to_list}
use Rattle.qc_base.specs.declared.ids.OpId.{OpId}
use Rattle.qc_base.specs.declared.ids.Qubit.{Qubit}
use Rattle.circuit_core.specs.declared.bits.BitRange.{BitRange}
use Rattle.circuit_core.specs.declared.last_ops.LastOps.{LastOps}
use Rattle.circuit_core.specs.declared.op.Op.{Op}
use Rattle.circuit_core.specs.Circuit.{CircuitValue, qubit_count, bit_count}
use Rattle.circuit_core.specs.Op.{qubits_of, bit_of, cond_of}
use Rattle.circuit_core.specs.Order.{IsTested}
use Rattle.circuit_core.specs.Deciding.{written, tested}

-- the bit is one of the range
abbrev pub IsIn : Option BitRange → ℕ → Type 0
IsIn None bit = ⊥
IsIn (Some range) bit = (range.from ≤ bit) × (bit < range.end)

-- the range has a bit, and only bits below that number
abbrev pub IsRangeBelow : ℕ → Option BitRange → Type 0
IsRangeBelow count range = IfSome range (λ (range : BitRange). (range.from < range.end) × (range.end ≤ count))

abbrev pub HasQubit : Op → ℕ → Type 0
HasQubit op qubit = Contains (qubits_of op) (record { 0 = qubit })

abbrev pub Writes : Op → ℕ → Type 0
Writes op bit = bit_of op ≡ Some (record { 0 = bit })

abbrev pub Tests : CircuitValue → Op → ℕ → Type 0
Tests circuit op bit = IsTested circuit (cond_of op) bit

-- the operation of that number acts so on the wire
pub record ActsOn (circuit : CircuitValue) (acts : Op → ℕ → Type 0) (wire number : ℕ) : Type 0 where
  pub op : Op
  pub there : slice_get circuit.ops number ≡ Some op
  pub on : acts op wire

-- no operation after the one and before the other acts so on the wire
abbrev pub NoneBetween : CircuitValue → (Op → ℕ → Type 0) → ℕ → ℕ → ℕ → Type 0
NoneBetween circuit acts wire first second =
    (number : ℕ) → first < number → number < second → ActsOn circuit acts wire number → ⊥

-- the last of so many first operations that acts so on the wire, none where none does
abbrev pub IsLastOn : CircuitValue → (Op → ℕ → Type 0) → ℕ → ℕ → Option OpId → Type 0
IsLastOn circuit acts count wire None = (number : ℕ) → number < count → ActsOn circuit acts wire number → ⊥
IsLastOn circuit acts count wire (Some last) =
    (last.0 < count) × ActsOn circuit acts wire last.0 × NoneBetween circuit acts wire last.0 count

-- the operation that the table has for the wire
abbrev pub entry : List (Option OpId) → ℕ → Option OpId
entry table wire = slice_index_or table wire None

-- so for each wire
abbrev pub IsLastTable : CircuitValue → (Op → ℕ → Type 0) → ℕ → List (Option OpId) → Type 0
IsLastTable circuit acts count table = (wire : ℕ) → IsLastOn circuit acts count wire (entry table wire)

-- each table has an entry for each qubit or bit
pub record AreTables (circuit : CircuitValue) (last : LastOps) : Type 0 where
  pub qubits : length last.on_qubit.items ≡ qubit_count circuit
  pub written : length last.writing.items ≡ bit_count circuit
  pub tested : length last.testing.items ≡ bit_count circuit

-- the tables of so many first operations
pub record AreLast (circuit : CircuitValue) (count : ℕ) (last : LastOps) : Type 0 where
  pub tables : AreTables circuit last
  pub on_qubit : IsLastTable circuit HasQubit count last.on_qubit.items
  pub writing : IsLastTable circuit Writes count last.writing.items
  pub testing : IsLastTable circuit (Tests circuit) count last.testing.items

-- the operation is now the last on these wires, and all other entries stay
pub record IsNoted (old new : List (Option OpId)) (number : OpId) (on : ℕ → Type 0) : Type 0 where
  pub len : length new ≡ length old
  pub each : (wire : ℕ)
      → (on wire × (entry new wire ≡ Some number)) ⊎ ((on wire → ⊥) × (entry new wire ≡ entry old wire))

-- the second operation, where it comes after the first
abbrev pub later : Option OpId → Option OpId → Option OpId
later first None = None
later None (Some second) = Some second
later (Some first) (Some second) = if nat_lt first.0 second.0 then Some second else None

-- the last operations on these qubits
abbrev pub last_on_qubits : List (Option OpId) → List Qubit → List OpId
last_on_qubits table qubits = flat_map (λ (qubit : Qubit). option_to_list (entry table qubit.0)) qubits

-- those of these operations that come after the one
abbrev pub later_than : Option OpId → List (Option OpId) → List OpId
later_than first others = flat_map (λ (other : Option OpId). option_to_list (later first other)) others

-- the last that tests the bits of the range, and the last that write one of them after that
abbrev pub last_on_bits : List (Option OpId) → List (Option OpId) → Option BitRange → List OpId
last_on_bits writing testing None = []
last_on_bits writing testing (Some range) =
    option_to_list (entry testing range.from)
    ++ later_than (entry testing range.from) (take (range.end - range.from) (drop range.from writing))

abbrev pub last_on_range : LastOps → Option BitRange → List OpId
last_on_range last range = last_on_bits last.writing.items last.testing.items range

-- the last operations on what the operation acts on
abbrev pub right_before : CircuitValue → LastOps → Op → List OpId
right_before circuit last op =
    (last_on_qubits last.on_qubit.items (qubits_of op) ++ last_on_range last (written op))
    ++ last_on_range last (tested circuit op)

-- the operation is now the last on what it acts on
pub record AreNoted (circuit : CircuitValue) (op : Op) (number : OpId) (old new : LastOps) : Type 0 where
  pub qubits : IsNoted old.on_qubit.items new.on_qubit.items number (HasQubit op)
  pub writing : IsNoted old.writing.items new.writing.items number (IsIn (written op))
  pub testing : IsNoted old.testing.items new.testing.items number (IsIn (tested circuit op))
