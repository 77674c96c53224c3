-- Working notions of private functions: what they need and answer.
use Rattle.std.specs.Prelude.{◌≢◌, ℕ, ◌+◌, ◌^◌, ◌<◌, ◌≤◌, Option, None, Some, List, [], ◌∷◌, length, slice_index_or}
use Rattle.sat_base.specs.Literal.{Literal, negated}
use Rattle.sat_base.specs.Clauses.{EachVariable, HasDistinctVariables}
use Rattle.at_most.specs.Totalizer.{premises, sums_of, tree_of}

-- the literal's variable is below a row of so many variables, of which there is at least one
pub record HasRow (x : Literal) (row count : ℕ) : Type 0 where
  pub below : x.var < row
  pub from_1 : 1 ≤ row
  pub some : 1 ≤ count
  pub numbers : row + count ≤ 2 ^ 31

-- the literal negated, where there is one
abbrev pub premise_of : Option Literal → List Literal
premise_of None = []
premise_of (Some output) = negated output ∷ []

-- the clauses of the left output of that number with all right outputs
abbrev pub sums_at : List Literal → ℕ → List Literal → ℕ → ℕ → List (List Literal)
sums_at lefts left rights first most =
    sums_of (slice_index_or (premises lefts) left []) left (premises rights) first most

-- no variable of the one list is in the other, and all are below first
pub record AreApart (lefts rights : List Literal) (first : ℕ) : Type 0 where
  pub apart : EachVariable (λ var. EachVariable (λ other. other ≢ var) rights) lefts
  pub left_below : EachVariable (λ var. var < first) lefts
  pub right_below : EachVariable (λ var. var < first) rights

-- the list has distinct variables below next, and there are numbers for what is built
pub record CanBuild (literals : List Literal) (k next : ℕ) : Type 0 where
  pub few : length literals ≤ 32768
  pub small : k < 32768
  pub distinct : HasDistinctVariables literals
  pub below : EachVariable (λ var. var < next) literals
  pub from_1 : 1 ≤ next
  pub numbers : (tree_of k literals next).next ≤ 2 ^ 31
