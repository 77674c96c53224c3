-- The lines of LRAT, their text, and which lines have the form (Cruz-Filipe, Heule, Hunt, Kaufmann, Schneider-Kamp:
-- Efficient certified RAT verification, CADE 2017). Lines that delete, hints below 0 and comments are left out.
use Rattle.std.specs.Prelude.{◌≡◌, ℕ, ◌<◌, ◌≤◌, ◌^◌, ◌==◌, nat_le, ◌&&◌, if◌then◌else◌, ◌⊎◌, List, [], ◌∷◌, ◌++◌, length, All}
use Rattle.std.specs.List.{flat_map}
use Rattle.sat_base.specs.Literal.{Literal}
use Rattle.sat_base.specs.Clauses.{EachVariable, HasDistinctVariables, clause_at}
use Rattle.sat_base.specs.Certificate.{line_text}

-- a line: its number, its clause, and the numbers of the clauses that it follows from, its hints
pub record ProofLine : Type 0 where
  pub number : ℕ
  pub clause : List Literal
  pub hints : List ℕ

-- a line: its number, its literals, 0, its hints, 0
abbrev pub proof_line_text : ProofLine → List ℕ
proof_line_text line = line_text line.number (record { clause = line.clause; hints = line.hints })

-- the whole text
abbrev pub lrat_text : List ProofLine → List ℕ
lrat_text lines = flat_map proof_line_text lines

-- a clause and its number
pub record Numbered : Type 0 where
  pub number : ℕ
  pub clause : List Literal

-- what a line may name: the clauses of a formula, numbered from 1, and the lines before it
pub record Hand : Type 0 where
  pub formula : List (List Literal)
  pub lines : List Numbered

-- a formula, and no line yet
abbrev pub hand_of : List (List Literal) → Hand
hand_of formula = record { formula = formula; lines = [] }

-- one line more
abbrev pub after : Hand → ProofLine → Hand
after hand line = record {
  formula = hand.formula;
  lines = hand.lines ++ record { number = line.number; clause = line.clause } ∷ [];
}

-- further lines
abbrev pub after_all : Hand → List ProofLine → Hand
after_all hand [] = hand
after_all hand (line ∷ lines) = after_all (after hand line) lines

-- one of the lines has the number
abbrev pub HaveNumber : List Numbered → ℕ → Type 0
HaveNumber [] number = ⊥
HaveNumber (line ∷ lines) number = (line.number ≡ number) ⊎ HaveNumber lines number

-- the clause of the line of that number; an empty one where there is none
abbrev pub clause_in : List Numbered → ℕ → List Literal
clause_in [] number = []
clause_in (line ∷ lines) number = if line.number == number then line.clause else clause_in lines number

-- a clause in hand has the number
abbrev pub IsNumber : Hand → ℕ → Type 0
IsNumber hand number = ((1 ≤ number) × (number ≤ length hand.formula)) ⊎ HaveNumber hand.lines number

-- the clause of that number
abbrev pub clause_named : Hand → ℕ → List Literal
clause_named hand number =
    if nat_le 1 number && nat_le number (length hand.formula) then clause_at hand.formula number
    else clause_in hand.lines number

-- the last number of the lines; the one given where there is no line
abbrev pub last_of : ℕ → List Numbered → ℕ
last_of number [] = number
last_of number (line ∷ lines) = last_of line.number lines

-- the greatest number in hand, 0 where there is none
abbrev pub last_number : Hand → ℕ
last_number hand = last_of (length hand.formula) hand.lines

-- The line has the form: its number is above those in hand, no variable is in it twice and none is above the number
-- of variables, and each hint is the number of a clause in hand. Numbers have 64 bits.
pub record HasForm (vars : ℕ) (hand : Hand) (line : ProofLine) : Type 0 where
  pub above : last_number hand < line.number
  pub fits : line.number < 2 ^ 64
  pub within : EachVariable (λ var. (1 ≤ var) × (var ≤ vars)) line.clause
  pub distinct : HasDistinctVariables line.clause
  pub named : All (IsNumber hand) line.hints
