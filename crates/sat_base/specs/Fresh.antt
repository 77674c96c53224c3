-- Fresh lines: lines that unit propagation over the clauses in hand did not give before.
use Rattle.std.specs.Prelude.{◌≡◌, ◌≢◌, ℕ, zero, suc, ◌<◌, ◌≤◌, ◌⊎◌, List, [], ◌∷◌, ◌++◌, length, All}
use Rattle.sat_base.specs.Literal.{Literal, negated}
use Rattle.sat_base.specs.Clauses.{Has, EachVariable}
use Rattle.sat_base.specs.Derivation.{Line, Refutes, AnyRefutes}

-- no literal of the set is beside its negation
abbrev pub IsConsistent : List Literal → Type 0
IsConsistent set = (literal : Literal) → Has set literal → Has set (negated literal) → ⊥

-- its variable is not in the set
abbrev pub IsOpen : List Literal → Literal → Type 0
IsOpen set literal = EachVariable (λ var. var ≢ literal.var) set

-- a literal of the clause is in the set
pub record HasTrue (set clause : List Literal) : Type 0 where
  pub literal : Literal
  pub has : Has clause literal
  pub holds : Has set literal

-- the variables of two literals of the clause are not in the set
pub record HasTwoOpen (set clause : List Literal) : Type 0 where
  pub first : Literal
  pub second : Literal
  pub different : first ≢ second
  pub has_first : Has clause first
  pub has_second : Has clause second
  pub first_open : IsOpen set first
  pub second_open : IsOpen set second

-- the set holds the negations of all literals of the line but one, and not that one's variable
pub record AssumesAllButOne (set line : List Literal) : Type 0 where
  pub last : Literal
  pub has : Has line last
  pub last_open : IsOpen set last
  pub others : (literal : Literal) → Has line literal → literal ≢ last → Has set (negated literal)

-- The line is fresh over the clauses in hand: some set of literals that unit propagation adds nothing to
-- denies all of the line but one literal, of which it says nothing.
pub record IsFreshOver (clauses : List (List Literal)) (line : List Literal) : Type 0 where
  pub set : List Literal
  pub consistent : IsConsistent set
  pub assumes : AssumesAllButOne set line
  pub closed : All (λ clause. HasTrue set clause ⊎ HasTwoOpen set clause) clauses

-- ---- a formula in parts, with bounds in order

-- a formula in parts 0, 1, 2 and so on; the goal of a bound is over the parts up to it
pub record Parts : Type 0 where
  pub part : ℕ → List (List Literal)
  pub goal : ℕ → Literal

-- the clauses of the parts 0 to bound
abbrev pub clauses_up_to : Parts → ℕ → List (List Literal)
clauses_up_to parts zero = parts.part 0
clauses_up_to parts (suc bound) = clauses_up_to parts bound ++ parts.part (suc bound)

-- the bound in hand: the least up to the last that no earlier clause refutes, or the last where there is none
pub record IsInHand (parts : Parts) (last : ℕ) (earlier : List (List Literal)) (bound : ℕ) : Type 0 where
  pub within : bound ≤ last
  pub below : (lower : ℕ) → lower < bound → AnyRefutes (parts.goal lower) earlier
  pub left : AnyRefutes (parts.goal bound) earlier → bound ≡ last

-- the hint names a clause of a part up to the bound, or a line after all parts
abbrev pub IsHintUpTo : Parts → ℕ → ℕ → ℕ → Type 0
IsHintUpTo parts last bound hint =
    (hint ≤ length (clauses_up_to parts bound)) ⊎ (length (clauses_up_to parts last) < hint)

-- the clause refutes the goal, and no earlier one does
pub record IsFirstRefuting (goal : Literal) (earlier : List (List Literal)) (clause : List Literal)
    : Type 0 where
  pub refutes : Refutes goal clause
  pub first : AnyRefutes goal earlier → ⊥

-- it is the first clause that refutes the bound, or is fresh over the parts up to it and the earlier clauses
abbrev pub IsNew : Parts → ℕ → List (List Literal) → List Literal → Type 0
IsNew parts bound earlier clause =
    IsFirstRefuting (parts.goal bound) earlier clause
    ⊎ IsFreshOver (clauses_up_to parts bound ++ earlier) clause

-- The line is fresh after earlier clauses: it is new at the bound in hand, and each of its hints names a clause
-- of a part up to that bound, or a line.
pub record IsFresh (parts : Parts) (last : ℕ) (earlier : List (List Literal)) (line : Line) : Type 0 where
  pub bound : ℕ
  pub in_hand : IsInHand parts last earlier bound
  pub hints : All (IsHintUpTo parts last bound) line.hints
  pub new : IsNew parts bound earlier line.clause

-- each line is fresh after those before it
abbrev pub AreFresh : Parts → ℕ → List (List Literal) → List Line → Type 0
AreFresh parts last earlier [] = Unit {0}
AreFresh parts last earlier (line ∷ lines) =
    IsFresh parts last earlier line × AreFresh parts last (earlier ++ line.clause ∷ []) lines
