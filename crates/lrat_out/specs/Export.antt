-- A derivation by resolution as lines of LRAT. The hints of a derivation are in the order of resolution, those of
-- LRAT in the order of unit propagation, which is the reverse.
use Rattle.std.specs.Prelude.{ℕ, ◌+◌, List, [], ◌∷◌, ◌++◌, length, map, take, reverse}
use Rattle.sat_base.specs.Literal.{Literal, negated, positive_of}
use Rattle.derivation_log.specs.declared.line_id.LineId.{LineId}
use Rattle.derivation_log.specs.Log.{Derived, Lines, derived_id, clause_of}
use Rattle.derivation_log.specs.Printing.{number_of}
use Rattle.lrat_out.specs.declared.standing.Standing.{Standing}
use Rattle.lrat_out.specs.declared.standing.Standing.TheVariants.{Holds, Fails, OneOpen, MoreOpen}
use Rattle.lrat_out.specs.Lines.{ProofLine, Numbered}
use Rattle.lrat_out.specs.Standing.{standing}

-- what is kept of a hint and the hints after it, which are thinned with the literals that are true by then
abbrev pub kept : Standing → ℕ → (List Literal → List ℕ) → List Literal → List ℕ
kept Holds number further trues = further trues
kept Fails number further trues = number ∷ []
kept (OneOpen literal) number further trues = number ∷ further (trues ++ literal ∷ [])
kept MoreOpen number further trues = number ∷ further trues

-- The numbers of the hints that are kept where these literals are true: a hint with a true literal is left out, one
-- with one unassigned literal makes it true, and the list ends at the first whose literals are all false.
abbrev pub thin : List Literal → List Numbered → List ℕ
thin trues [] = []
thin trues (hint ∷ hints) = kept (standing trues hint.clause) hint.number (λ trues. thin trues hints) trues

-- the axioms, and the unit clause of the goal after them
abbrev pub with_goal : Lines → ℕ → List (List Literal)
with_goal log goal = log.axioms ++ (positive_of goal ∷ []) ∷ []

-- the clause and the number of a line of the log; derived lines are numbered on after the goal's unit clause
abbrev pub hint_of : Lines → LineId → Numbered
hint_of log line = record { number = number_of (length log.axioms + 1) line; clause = clause_of log line }

-- the derived line of that number, counted from 1
abbrev pub proof_line : Lines → ℕ → Derived → ProofLine
proof_line log k line = record {
  number = length log.axioms + 1 + k;
  clause = line.clause;
  hints = thin (map negated line.clause) (reverse (map (hint_of log) line.hints));
}

-- derived lines, counted on from that number
abbrev pub proof_lines_from : Lines → ℕ → List Derived → List ProofLine
proof_lines_from log k [] = []
proof_lines_from log k (line ∷ lines) = proof_line log k line ∷ proof_lines_from log (k + 1) lines

-- where the last clause isn't empty, the empty clause, which follows from the goal's unit clause and the last line
abbrev pub closing_lines : ℕ → ℕ → List Literal → List ProofLine
closing_lines axioms last [] = []
closing_lines axioms last (literal ∷ rest) = record {
  number = axioms + 1 + last + 1;
  clause = [];
  hints = (axioms + 1) ∷ (axioms + 1 + last) ∷ [];
} ∷ []

-- the derived lines up to the last one, and the empty clause
abbrev pub proof_lines : Lines → ℕ → List ProofLine
proof_lines log last =
    proof_lines_from log 1 (take last log.derived)
    ++ closing_lines (length log.axioms) last (clause_of log (derived_id last))
