-- Sets of literals that are kept as lists, and how they change.
use Rattle.std.specs.Prelude.{◌≡◌, ◌≢◌, ℕ, ◌+◌, ◌*◌, ◌<◌, if◌then◌else◌, ◌⊎◌, List, [], ◌∷◌, ◌++◌, length, slice_get, slice_index, Some}
use Rattle.sat_base.specs.Literal.{Literal}
use Rattle.sat_base.specs.Clauses.{Has}

-- no literal is in the list twice
abbrev pub AreDistinct : List Literal → Type 0
AreDistinct [] = Unit {0}
AreDistinct (literal ∷ rest) = (Has rest literal → ⊥) × AreDistinct rest

-- the literal is added at the end where it was not in the set
pub record Adds (old : List Literal) (literal : Literal) (new : List Literal) : Type 0 where
  pub stays : Has old literal → new ≡ old
  pub grows : (Has old literal → ⊥) → new ≡ old ++ literal ∷ []

-- the set loses the literal, and no other
pub record Loses (old : List Literal) (literal : Literal) (new : List Literal) : Type 0 where
  pub gone : Has new literal → ⊥
  pub others : (other : Literal) → other ≢ literal → Has old other → Has new other
  pub within : (other : Literal) → Has new other → Has old other

-- the literals of the clause are added
pub record AddsAll (old clause new : List Literal) : Type 0 where
  pub keeps : (literal : Literal) → Has old literal → Has new literal
  pub gets : (literal : Literal) → Has clause literal → Has new literal
  pub parts : (literal : Literal) → Has new literal → Has old literal ⊎ Has clause literal

-- the literals of the clause but that one are added
pub record AddsOthers (old clause : List Literal) (but : Literal) (new : List Literal) : Type 0 where
  pub keeps : (literal : Literal) → Has old literal → Has new literal
  pub gets : (literal : Literal) → Has clause literal → literal ≢ but → Has new literal
  pub parts : (literal : Literal) → Has new literal → Has old literal ⊎ (Has clause literal × (literal ≢ but))

-- ---- working notions of private functions

-- the number of a literal among all literals
abbrev pub code_of : Literal → ℕ
code_of literal = 2 * literal.var + (if literal.positive then 0 else 1)

-- the table has the place of each member at its code
pub record ArePlaced (members : List Literal) (places : List ℕ) : Type 0 where
  pub within : (place : ℕ) (literal : Literal) → slice_get members place ≡ Some literal
      → code_of literal < length places
  pub at : (place : ℕ) (literal : Literal) → slice_get members place ≡ Some literal
      → slice_index places (code_of literal) ≡ place
