-- Working notions of private functions: what is left to print of a certificate.
use Rattle.std.specs.Prelude.{ℕ, ◌+◌, ◌≤◌, ◌<◌, ◌^◌, List, ◌++◌, map, drop, All, codes}
use Rattle.sat_base.specs.declared.certificate.Head.{Head as AHead}
use Rattle.sat_base.specs.Certificate.{head_text, literals_text, hints_text, lines_text}
use Rattle.derivation_log.specs.declared.line_id.LineId.{LineId}
use Rattle.derivation_log.specs.declared.words.Place.{Place}
use Rattle.derivation_log.specs.declared.words.Place.TheVariants.{Head, Line, Literals, Hints}
use Rattle.derivation_log.specs.Log.{Lines, IsSound}
use Rattle.derivation_log.specs.Printing.{Covers, number_of, first_lines}

-- the lines after the first so many
abbrev pub lines_left : Lines → ℕ → ℕ → ℕ → List ℕ
lines_left log axioms lines begun = lines_text (axioms + begun + 1) (drop begun (first_lines log axioms lines))

-- the hints of a line, and what ends it
abbrev pub hints_left : ℕ → List LineId → List ℕ
hints_left axioms hints = hints_text (map (number_of axioms) hints) ++ codes "0\n"

-- the text from a place on
abbrev pub text_left : Lines → AHead → ℕ → ℕ → ℕ → Place → List ℕ
text_left log head axioms lines begun Head = head_text head ++ lines_left log axioms lines begun
text_left log head axioms lines begun Line = lines_left log axioms lines begun
text_left log head axioms lines begun (Literals literals hints) =
    literals_text literals.now ++ codes "0 " ++ hints_left axioms hints.now ++ lines_left log axioms lines begun
text_left log head axioms lines begun (Hints hints) =
    hints_left axioms hints.now ++ lines_left log axioms lines begun

-- the numbers of the hints fit their type
abbrev pub HintsFit : ℕ → List LineId → Type 0
HintsFit axioms hints = All (λ hint. number_of axioms hint < 2 ^ 64) hints

-- the numbers of the hints that are left to print fit their type
abbrev pub PlaceFits : ℕ → Place → Type 0
PlaceFits axioms Head = Unit {0}
PlaceFits axioms Line = Unit {0}
PlaceFits axioms (Literals literals hints) = HintsFit axioms hints.now
PlaceFits axioms (Hints hints) = HintsFit axioms hints.now

-- the log covers the lines, some of which have begun, and all numbers fit their type
pub record AreLeft (log : Lines) (axioms lines begun : ℕ) (place : Place) : Type 0 where
  pub sound : IsSound log
  pub covers : Covers log axioms lines
  pub begun_within : begun ≤ lines
  pub numbered : axioms + lines < 2 ^ 64
  pub fits : PlaceFits axioms place
