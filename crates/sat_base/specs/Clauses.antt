-- Clauses as lists of literals, and lists of clauses.
use Rattle.std.specs.Prelude.{◌≡◌, ◌≢◌, ℕ, ◌-◌, List, [], ◌∷◌, ◌⊎◌, slice_index_or}
use Rattle.sat_base.specs.Literal.{Literal}

-- the literal is in the clause
abbrev pub Has : List Literal → Literal → Type 0
Has [] literal = ⊥
Has (first ∷ rest) literal = (first ≡ literal) ⊎ Has rest literal

-- each literal of the one is in the other
abbrev pub IsSubclause : List Literal → List Literal → Type 0
IsSubclause part whole = (literal : Literal) → Has part literal → Has whole literal

-- both have the same literals
abbrev pub SameLiterals : List Literal → List Literal → Type 0
SameLiterals clause other = IsSubclause clause other × IsSubclause other clause

-- the variable is in the clause, negated or not
abbrev pub Mentions : List Literal → ℕ → Type 0
Mentions [] var = ⊥
Mentions (literal ∷ rest) var = (literal.var ≡ var) ⊎ Mentions rest var

-- the fact holds of the variable of each literal of the clause
abbrev pub EachVariable : (ℕ → Type 0) → List Literal → Type 0
EachVariable P [] = Unit {0}
EachVariable P (literal ∷ rest) = P literal.var × EachVariable P rest

-- the fact holds of each variable that the clauses name
abbrev pub NameOnly : (ℕ → Type 0) → List (List Literal) → Type 0
NameOnly P [] = Unit {0}
NameOnly P (clause ∷ rest) = EachVariable P clause × NameOnly P rest

-- no variable is in the clause twice
abbrev pub HasDistinctVariables : List Literal → Type 0
HasDistinctVariables [] = Unit {0}
HasDistinctVariables (literal ∷ rest) = EachVariable (λ var. var ≢ literal.var) rest × HasDistinctVariables rest

-- no variable is in any of the clauses twice
abbrev pub HaveDistinctVariables : List (List Literal) → Type 0
HaveDistinctVariables [] = Unit {0}
HaveDistinctVariables (clause ∷ rest) = HasDistinctVariables clause × HaveDistinctVariables rest

-- the clause of that number, counted from 1; an empty one where there is none
abbrev pub clause_at : List (List Literal) → ℕ → List Literal
clause_at clauses number = slice_index_or clauses (number - 1) []
