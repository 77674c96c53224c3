-- Resolving the clauses that hints name, one after another.
use Rattle.std.proofs.Common.{◌≡◌, ℕ, ◌+◌, ◌<◌, ◌≤◌, List, [], ◌∷◌, length, map, drop, slice_index_or, sym, ap, ◌∙◌, subst, arith}
use Rattle.std.specs.Prelude.{◌↔◌}
use Rattle.std.proofs.lemmas.List.{length-map, drop_more, drop_all, get_or-map}
use Rattle.sat_base.specs.Literal.{Literal}
use Rattle.sat_base.specs.Clauses.{SameLiterals, clause_at}
use Rattle.sat_base.specs.Resolution.{SoFar, Leads, ResolveTo, Begins, Joins, IsRefused}

-- the clauses that the hints name
abbrev pub named : List (List Literal) → List ℕ → List (List Literal)
named clauses hints = map (clause_at clauses) hints

-- resolving the hints leads to the same clauses as going on from there with the hints from an index on
abbrev pub Reaches : List (List Literal) → List ℕ → ℕ → SoFar → Type 0
Reaches clauses hints i so_far = (clause : List Literal) → ResolveTo (named clauses hints) clause ↔ Leads so_far (drop i (named clauses hints)) clause

named_from : (clauses : List (List Literal)) (hints : List ℕ) (i d : ℕ) (hint : List Literal) → i < length hints → hint ≡ clause_at clauses (slice_index_or hints i d) → drop i (named clauses hints) ≡ hint ∷ drop (i + 1) (named clauses hints)
named_from clauses hints i d hint within is =
    let len : length (named clauses hints) ≡ length hints = length-map hints (clause_at clauses) in
    drop_more (named clauses hints) i [] (omega arith)
    ∙ ap (λ (clause : List Literal). clause ∷ drop (i + 1) (named clauses hints)) (get_or-map (clause_at clauses) hints i d [] within ∙ sym is)

pub begins : (clauses : List (List Literal)) (hints : List ℕ) (d : ℕ) (first : List Literal) (so_far : SoFar) → 0 < length hints → first ≡ clause_at clauses (slice_index_or hints 0 d)
    → Begins first so_far → Reaches clauses hints 1 so_far
begins clauses hints d first so_far some is leads clause =
    subst (λ (all : List (List Literal)). ResolveTo all clause ↔ Leads so_far (drop 1 (named clauses hints)) clause) (sym (named_from clauses hints 0 d first some is)) (leads (drop 1 (named clauses hints)) clause)

pub takes_next : (clauses : List (List Literal)) (hints : List ℕ) (i d : ℕ) (hint : List Literal) (so_far next : SoFar) → i < length hints → hint ≡ clause_at clauses (slice_index_or hints i d)
    → Joins so_far hint next → Reaches clauses hints i so_far → Reaches clauses hints (i + 1) next
takes_next clauses hints i d hint so_far next within is leads before clause =
    let rest = named_from clauses hints i d hint within is in
    let both = leads (drop (i + 1) (named clauses hints)) clause in (
      λ h. both.0 (subst (λ (all : List (List Literal)). Leads so_far all clause) rest ((before clause).0 h)),
      λ h. (before clause).1 (subst (λ (all : List (List Literal)). Leads so_far all clause) (sym rest) (both.1 h)),
    )

pub stops : (clauses : List (List Literal)) (hints : List ℕ) (i d : ℕ) (hint : List Literal) (so_far : SoFar) → i < length hints → hint ≡ clause_at clauses (slice_index_or hints i d)
    → IsRefused so_far hint → Reaches clauses hints i so_far → (clause : List Literal) → ResolveTo (named clauses hints) clause → ⊥
stops clauses hints i d hint so_far within is stuck before clause h =
    let rest = named_from clauses hints i d hint within is in
    stuck (drop (i + 1) (named clauses hints)) clause (subst (λ (all : List (List Literal)). Leads so_far all clause) rest ((before clause).0 h))

pub ends : (clauses : List (List Literal)) (hints : List ℕ) (i : ℕ) (so_far : SoFar) → length hints ≤ i → Reaches clauses hints i so_far → (clause : List Literal) → ResolveTo (named clauses hints) clause ↔ SameLiterals so_far.clause clause
ends clauses hints i so_far over before clause =
    let len : length (named clauses hints) ≡ length hints = length-map hints (clause_at clauses) in
    subst (λ (all : List (List Literal)). ResolveTo (named clauses hints) clause ↔ Leads so_far all clause) (drop_all i (named clauses hints) (omega arith)) (before clause)
