-- Derivations: lines that each follow by resolution from a formula and the lines before.
use Rattle.std.specs.Prelude.{◌≡◌, ℕ, ◌+◌, ◌<◌, ◌≤◌, List, [], ◌∷◌, ◌++◌, length, map, All, Any}
use Rattle.sat_base.specs.Literal.{Literal, negated}
use Rattle.sat_base.specs.Clauses.{Has, EachVariable, clause_at}
use Rattle.sat_base.specs.Resolution.{ResolveTo}

-- a derived clause, and the numbers of the clauses that it comes from, in the order of resolution
pub record Line : Type 0 where
  pub clause : List Literal
  pub hints : List ℕ

-- the clauses of lines, in order
abbrev pub clauses_of : List Line → List (List Literal)
clauses_of lines = map (λ (line : Line). line.clause) lines

-- the literals ascend by variable, and no variable is there twice
abbrev pub IsAscending : List Literal → Type 0
IsAscending [] = Unit {0}
IsAscending (literal ∷ rest) = EachVariable (λ var. literal.var < var) rest × IsAscending rest

-- the line follows from the clauses before it, numbered from 1: those that its hints name resolve to its clause
pub record IsDerived (clauses : List (List Literal)) (line : Line) : Type 0 where
  pub named : All (λ hint. (1 ≤ hint) × (hint ≤ length clauses)) line.hints
  pub resolve : ResolveTo (map (clause_at clauses) line.hints) line.clause

-- each line follows from the clauses and the lines before it
abbrev pub AreDerived : List (List Literal) → List Line → Type 0
AreDerived clauses [] = Unit {0}
AreDerived clauses (line ∷ lines) = IsDerived clauses line × AreDerived (clauses ++ line.clause ∷ []) lines

-- the line is good: it follows from the clauses before it, by at most one hint more than there are variables
pub record IsGood (vars : ℕ) (clauses : List (List Literal)) (line : Line) : Type 0 where
  pub few : length line.hints ≤ vars + 1
  pub derived : IsDerived clauses line

-- each line is good over the formula and the lines before it
abbrev pub AreGood : ℕ → List (List Literal) → List Line → Type 0
AreGood vars clauses [] = Unit {0}
AreGood vars clauses (line ∷ lines) =
    IsGood vars clauses line × AreGood vars (clauses ++ line.clause ∷ []) lines

-- the clause has no literal other than the negated goal
abbrev pub Refutes : Literal → List Literal → Type 0
Refutes goal clause = (literal : Literal) → Has clause literal → literal ≡ negated goal

-- some clause of the list refutes the goal
abbrev pub AnyRefutes : Literal → List (List Literal) → Type 0
AnyRefutes goal clauses = Any (Refutes goal) clauses
