-- What clauses have to do that allow at most so many of a list of literals to be true.
use Rattle.std.specs.Prelude.{◌≡◌, ℕ, ◌+◌, ◌^◌, ◌<◌, ◌≤◌, List, ◌++◌, length, ◌⊎◌}
use Rattle.sat_base.specs.Literal.{Literal}
use Rattle.sat_base.specs.Clauses.{Mentions, EachVariable, NameOnly, HasDistinctVariables}
use Rattle.sat_base.specs.Truth.{Valuation, Satisfies, true_count, AgreeExcept}

-- a limit on n literals: at least 1 and below n; and there are not too many literals
pub record IsLimit (n k : ℕ) : Type 0 where
  pub some : 1 ≤ k
  pub below : k < n
  pub few : n ≤ 32768

-- the variables of the literals differ and are below next, and so many numbers from next on are left for new ones
pub record HasRoom (literals : List Literal) (next count : ℕ) : Type 0 where
  pub distinct : HasDistinctVariables literals
  pub below : EachVariable (λ var. var < next) literals
  pub from_1 : 1 ≤ next
  pub numbers : next + count ≤ 2 ^ 31

-- the variable is new: at least next, and below end
abbrev pub IsNew : ℕ → ℕ → ℕ → Type 0
IsNew next end var = (next ≤ var) × (var < end)

-- The clauses allow at most k of the literals to be true, and say nothing else of them; new variables are at least
-- next and below end.
pub record Limits (k : ℕ) (literals : List Literal) (next end : ℕ) (clauses : List (List Literal))
    : Type 0 where
  -- the clauses name only the variables of the literals and the new ones
  pub names : NameOnly (λ var. Mentions literals var ⊎ IsNew next end var) clauses
  -- where at most k of the literals are true, the new variables can be given values that satisfy the clauses
  pub extends : (values : Valuation) → true_count values literals ≤ k
      → (other : Valuation) × (AgreeExcept next end values other × Satisfies other clauses)
  -- where the clauses are satisfied, at most k of the literals are true
  pub holds : (values : Valuation) → Satisfies values clauses → true_count values literals ≤ k

-- wherever k is a limit and there is room, the clauses of an encoding with so many new variables limit the literals
abbrev pub AlwaysLimits : (ℕ → ℕ → ℕ) → (List Literal → ℕ → ℕ → List (List Literal)) → Type 0
AlwaysLimits fresh_count clauses = (literals : List Literal) (k next : ℕ)
    → let count = fresh_count (length literals) k in
    IsLimit (length literals) k → HasRoom literals next count
    → Limits k literals next (next + count) (clauses literals k next)

-- of the clauses that were to be added, a prefix was
pub record AddsPrefix (old new added : List (List Literal)) : Type 0 where
  pub prefix : List (List Literal)
  pub rest : List (List Literal)
  pub parts : added ≡ prefix ++ rest
  pub kept : new ≡ old ++ prefix
