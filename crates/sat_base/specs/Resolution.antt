-- Resolution: what clauses, taken in order, give together.
use Rattle.std.specs.Prelude.{◌≡◌, ◌≢◌, ◌↔◌, List, [], ◌∷◌, ◌++◌, ◌⊎◌}
use Rattle.sat_base.specs.Literal.{Literal, negated}
use Rattle.sat_base.specs.Clauses.{Has, SameLiterals, EachVariable}

-- the pivot is the only literal of the hint whose negation is in the clause so far
pub record IsOnlyClash (so_far hint : List Literal) (pivot : Literal) : Type 0 where
  pub has : Has hint pivot
  pub against : Has so_far (negated pivot)
  pub only : (literal : Literal) → Has hint literal → Has so_far (negated literal) → literal ≡ pivot

-- the literal is in the one clause and isn't the negated pivot, or is in the other and isn't the pivot
abbrev pub IsLeft : List Literal → List Literal → Literal → Literal → Type 0
IsLeft so_far hint pivot literal =
    (Has so_far literal × (literal ≢ negated pivot)) ⊎ (Has hint literal × (literal ≢ pivot))

-- the next clause is the two without the pivot and its negation, joined
pub record IsJoined (so_far hint : List Literal) (pivot : Literal) (next : List Literal) : Type 0 where
  pub parts : (literal : Literal) → Has next literal → IsLeft so_far hint pivot literal
  pub keeps : (literal : Literal) → Has so_far literal → literal ≢ negated pivot → Has next literal
  pub gets : (literal : Literal) → Has hint literal → literal ≢ pivot → Has next literal

-- the clause so far, and the pivots that were taken out before
pub record SoFar : Type 0 where
  pub clause : List Literal
  pub taken : List Literal

-- A hint is joined: its only clash, of a variable that was not taken out before, is taken out of both, and the
-- rest is joined.
pub record Step (so_far : SoFar) (hint : List Literal) (next : SoFar) : Type 0 where
  pub pivot : Literal
  pub clash : IsOnlyClash so_far.clause hint pivot
  pub new_variable : EachVariable (λ var. var ≢ pivot.var) so_far.taken
  pub joined : IsJoined so_far.clause hint pivot next.clause
  pub counted : next.taken ≡ so_far.taken ++ pivot ∷ []

-- with the clause so far, the further hints resolve to the clause
abbrev pub Leads : SoFar → List (List Literal) → List Literal → Type 0
Leads so_far [] clause = SameLiterals so_far.clause clause
Leads so_far (hint ∷ hints) clause = (next : SoFar) × Step so_far hint next × Leads next hints clause

-- the hints resolve to the clause: the first is the clause so far, and the others are joined one after another
abbrev pub ResolveTo : List (List Literal) → List Literal → Type 0
ResolveTo [] clause = ⊥
ResolveTo (first ∷ further) clause = Leads (record { clause = first; taken = [] }) further clause

-- the hints resolve to some clause
abbrev pub Resolve : List (List Literal) → Type 0
Resolve hints = (clause : List Literal) × ResolveTo hints clause

-- ---- resolving hint by hint: what a clause so far says of all further hints

-- it is what the first hint gives
abbrev pub Begins : List Literal → SoFar → Type 0
Begins first so_far = (hints : List (List Literal)) (clause : List Literal)
    → ResolveTo (first ∷ hints) clause ↔ Leads so_far hints clause

-- the next one is what it and the hint give
abbrev pub Joins : SoFar → List Literal → SoFar → Type 0
Joins so_far hint next = (hints : List (List Literal)) (clause : List Literal)
    → Leads so_far (hint ∷ hints) clause ↔ Leads next hints clause

-- with this hint next, it leads to no clause
abbrev pub IsRefused : SoFar → List Literal → Type 0
IsRefused so_far hint = (hints : List (List Literal)) (clause : List Literal)
    → Leads so_far (hint ∷ hints) clause → ⊥
