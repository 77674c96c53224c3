-- Lists of qubits in zones: none occurs twice, and each zone has room for its list.
use Rattle.std.specs.Prelude.{ℕ, ◌≤◌, Bool, List, [], ◌∷◌, length}
use Rattle.qc_base.specs.declared.ids.Qubit.{Qubit}
use Rattle.trap_parts.specs.declared.parts.ZonePart.{ZonePart}
use Rattle.step_rules.specs.Placement.{times}
use Rattle.step_rules.specs.Flags.{AreFlags}

-- none occurs twice
abbrev pub AreOnce : List Qubit → Type 0
AreOnce qubits = (k : ℕ) → times k qubits ≤ 1

-- the flags are those of the qubits, of which none occurs twice
pub record AreMarked (marks : List Bool) (qubits : List Qubit) : Type 0 where
  pub flags : AreFlags marks qubits
  pub once : AreOnce qubits

-- each list is that of one of the first zones, which has room for it
abbrev pub AreIn : List ZonePart → List (List Qubit) → Type 0
AreIn zones [] = Unit {0}
AreIn [] (list ∷ lists) = ⊥
AreIn (zone ∷ zones) (list ∷ lists) = (length list ≤ zone.capacity) × AreIn zones lists
