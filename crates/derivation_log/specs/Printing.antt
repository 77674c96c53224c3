-- The lines of a log as the lines of a certificate over its first axioms.
use Rattle.std.specs.Prelude.{◌≡◌, ℕ, ◌+◌, ◌≤◌, false, if◌then◌else◌, List, length, map, take, All}
use Rattle.sat_base.specs.Derivation.{Line}
use Rattle.derivation_log.specs.declared.line_id.LineId.{LineId}
use Rattle.derivation_log.specs.Log.{Derived, Lines}

-- the number of a line, where derived lines are numbered on after so many axioms
abbrev pub number_of : ℕ → LineId → ℕ
number_of axioms line = if line.derived then axioms + line.number else line.number

-- a derived line, its hints as numbers
abbrev pub line_of : ℕ → Derived → Line
line_of axioms derived = record { clause = derived.clause; hints = map (number_of axioms) derived.hints }

-- the first so many derived lines, their hints as numbers
abbrev pub first_lines : Lines → ℕ → ℕ → List Line
first_lines log axioms lines = map (line_of axioms) (take lines log.derived)

-- none of the lines is an axiom after the first so many
abbrev pub NameNoLaterAxiom : ℕ → List LineId → Type 0
NameNoLaterAxiom axioms hints = All (λ (hint : LineId). hint.derived ≡ false → hint.number ≤ axioms) hints

-- the log has so many axioms and derived lines, and no hint of these lines is a later axiom
pub record Covers (log : Lines) (axioms lines : ℕ) : Type 0 where
  pub axioms_there : axioms ≤ length log.axioms
  pub lines_there : lines ≤ length log.derived
  pub hints_there : All (λ (derived : Derived). NameNoLaterAxiom axioms derived.hints) (take lines log.derived)
