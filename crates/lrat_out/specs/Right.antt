-- Which lines of LRAT are right: their clauses follow by unit propagation along their hints.
use Rattle.std.specs.Prelude.{◌≢◌, ℕ, ◌⊎◌, List, [], ◌∷◌, ◌++◌, map}
use Rattle.sat_base.specs.Literal.{Literal, negated}
use Rattle.sat_base.specs.Clauses.{Has}
use Rattle.sat_base.specs.Fresh.{IsOpen}
use Rattle.lrat_out.specs.Lines.{ProofLine, Hand, clause_named, after, HasForm}

-- where these literals are true, all literals of the clause are false
abbrev pub AreDenied : List Literal → List Literal → Type 0
AreDenied trues clause = (literal : Literal) → Has clause literal → Has trues (negated literal)

-- where these literals are true, one literal of the clause is unassigned, and all others are false
pub record IsUnit (trues clause : List Literal) (unit : Literal) : Type 0 where
  pub has : Has clause unit
  pub unassigned : IsOpen trues unit
  pub others : (literal : Literal) → Has clause literal → literal ≢ unit → Has trues (negated literal)

-- Taken in turn, each clause makes its one unassigned literal true, up to a clause whose literals are all false.
-- The clauses after that one don't count.
abbrev pub Propagates : List Literal → List (List Literal) → Type 0
Propagates trues [] = ⊥
Propagates trues (clause ∷ clauses) =
    AreDenied trues clause
    ⊎ ((unit : Literal) × IsUnit trues clause unit × Propagates (trues ++ unit ∷ []) clauses)

-- the line is right: with its literals assumed false, its hints propagate
abbrev pub IsRight : Hand → ProofLine → Type 0
IsRight hand line = Propagates (map negated line.clause) (map (clause_named hand) line.hints)

-- each line has the form and is right over what is in hand before it
abbrev pub AreAccepted : ℕ → Hand → List ProofLine → Type 0
AreAccepted vars hand [] = Unit {0}
AreAccepted vars hand (line ∷ lines) =
    HasForm vars hand line × IsRight hand line × AreAccepted vars (after hand line) lines
