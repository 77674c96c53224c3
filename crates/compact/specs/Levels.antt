-- Levels of spots and wires: working notions of private functions.
use Rattle.std.specs.Prelude.{◌≡◌, ℕ, ◌<◌, ◌≤◌, max, ◌⊎◌, List, [], ◌∷◌, slice_index, Contains}
use Rattle.circuit_core.specs.declared.op.Op.{Op}
use Rattle.circuit_core.specs.Circuit.{CircuitValue}
use Rattle.circuit_core.specs.Op.{qubits_of}
use Rattle.circuit_core.specs.Order.{Wire, on_qubit, on_bit, IsWire}
use Rattle.step_rules.specs.Steps.{Spot, place, junction}
use Rattle.compact.specs.declared.bits.Bits.{Bits}

-- the level of that number is at least this, and all others stay
pub record IsRaised (old new : List ℕ) (number level : ℕ) : Type 0 where
  pub here : slice_index new number ≡ max (slice_index old number) level
  pub others : (other : ℕ) → (other ≡ number → ⊥) → slice_index new other ≡ slice_index old other

-- one of these has that level
pub record IsLevelOf {W : Type 0} (on : W → Type 0) (level : W → ℕ) (greatest : ℕ) : Type 0 where
  pub which : W
  pub is_on : on which
  pub is_level : level which ≡ greatest

-- the greatest level of these, 0 where there are none
pub record IsGreatest {W : Type 0} (on : W → Type 0) (level : W → ℕ) (greatest : ℕ) : Type 0 where
  pub above : (which : W) → on which → level which ≤ greatest
  pub reached : (greatest ≡ 0) ⊎ IsLevelOf on level greatest

-- the greatest level of a list of these, 0 for none
abbrev pub greatest_of : {W : Type 0} → (W → ℕ) → List W → ℕ
greatest_of level [] = 0
greatest_of level (first ∷ rest) = max (level first) (greatest_of level rest)

-- these have at least that level now, and all others stay
abbrev pub AreRaised : {W : Type 0} → (W → Type 0) → (W → ℕ) → (W → ℕ) → ℕ → Type 0
AreRaised {W} on old new level =
    (which : W)
    → (on which × (new which ≡ max (old which) level)) ⊎ ((on which → ⊥) × (new which ≡ old which))

-- the levels of places and junctions
pub record SpotsValue : Type 0 where
  pub places : List ℕ
  pub junctions : List ℕ

abbrev pub spot_level : SpotsValue → Spot → ℕ
spot_level levels (place number) = slice_index levels.places number
spot_level levels (junction number) = slice_index levels.junctions number

-- the levels of qubits and bits
pub record WiresValue : Type 0 where
  pub qubits : List ℕ
  pub bits : List ℕ

abbrev pub wire_level : WiresValue → Wire → ℕ
wire_level levels (on_qubit number) = slice_index levels.qubits number
wire_level levels (on_bit number) = slice_index levels.bits number

-- the bit is one of these
abbrev pub IsIn : Bits → ℕ → Type 0
IsIn bits bit = (bits.from ≤ bit) × (bit < bits.end)

abbrev pub HasQubit : Op → ℕ → Type 0
HasQubit op qubit = Contains (qubits_of op) (record { 0 = qubit })

-- what the operation acts on is raised to its greatest level
pub record IsLifted (circuit : CircuitValue) (op : Op) (old new : WiresValue) (level : ℕ) : Type 0 where
  pub greatest : IsGreatest (IsWire circuit op) (wire_level old) level
  pub raised : AreRaised (IsWire circuit op) (wire_level old) (wire_level new) level
