-- The text of a certificate: the three lines of a head, and a line for each derived clause.
-- The format is this project's own.
use Rattle.std.specs.Prelude.{ℕ, ◌+◌, ◌<◌, ◌≤◌, if◌then◌else◌, List, [], ◌∷◌, ◌++◌, length, All, codes, decimal}
use Rattle.std.specs.List.{flat_map}
use Rattle.sat_base.specs.Literal.{Literal}
use Rattle.sat_base.specs.Clauses.{EachVariable}
use Rattle.sat_base.specs.Derivation.{Line, IsAscending}
use Rattle.sat_base.specs.declared.certificate.Head.{Head}
use Rattle.sat_base.specs.declared.certificate.Bound.{Bound}
use Rattle.sat_base.specs.declared.certificate.Bound.TheVariants.{Refutes, Nothing, Open}

-- the first line
abbrev pub title_text : List ℕ
title_text = codes "qccd certificate 1\n"

-- the line of the encoding
abbrev pub encoding_text : ℕ → List ℕ
encoding_text encoding = codes "encoding " ++ decimal encoding ++ codes "\n"

-- the line of the bound
abbrev pub bound_text : Bound → List ℕ
bound_text (Refutes bound) = codes "refutes " ++ decimal bound ++ codes "\n"
bound_text Nothing = codes "refutes nothing\n"
bound_text (Open bound) = codes "open " ++ decimal bound ++ codes "\n"

-- the three lines of a head
abbrev pub head_text : Head → List ℕ
head_text head = title_text ++ encoding_text head.encoding ++ bound_text head.bound

-- a variable, with a sign in front where it is negated
abbrev pub literal_text : Literal → List ℕ
literal_text literal = (if literal.positive then [] else codes "-") ++ decimal literal.var

-- the literals, a space after each
abbrev pub literals_text : List Literal → List ℕ
literals_text clause = flat_map (λ literal. literal_text literal ++ codes " ") clause

-- the hints, a space after each
abbrev pub hints_text : List ℕ → List ℕ
hints_text hints = flat_map (λ hint. decimal hint ++ codes " ") hints

-- a line: its number, its literals, 0, its hints, 0
abbrev pub line_text : ℕ → Line → List ℕ
line_text number line =
    decimal number ++ codes " "
    ++ literals_text line.clause ++ codes "0 "
    ++ hints_text line.hints ++ codes "0\n"

-- lines whose numbers run on from the first
abbrev pub lines_text : ℕ → List Line → List ℕ
lines_text number [] = []
lines_text number (line ∷ lines) = line_text number line ++ lines_text (number + 1) lines

-- the whole text: the head, and then the lines, whose numbers follow those of so many axioms
abbrev pub certificate_text : Head → ℕ → List Line → List ℕ
certificate_text head axioms lines = head_text head ++ lines_text (axioms + 1) lines

-- The line of that number has the form: its literals ascend by variable, none above the number of variables,
-- and it has hints, each of them an earlier number.
pub record HasForm (vars number : ℕ) (line : Line) : Type 0 where
  pub ascending : IsAscending line.clause
  pub within : EachVariable (λ var. (1 ≤ var) × (var ≤ vars)) line.clause
  pub some : 1 ≤ length line.hints
  pub hints : All (λ hint. (1 ≤ hint) × (hint < number)) line.hints

-- each line has the form, numbered on from the first
abbrev pub HaveForm : ℕ → ℕ → List Line → Type 0
HaveForm vars number [] = Unit {0}
HaveForm vars number (line ∷ lines) = HasForm vars number line × HaveForm vars (number + 1) lines
