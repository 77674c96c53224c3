-- Rows of what is known of each place, after one of them is written.
use Rattle.std.proofs.Common.{◌≡◌, ◌≢◌, ℕ, zero, suc, ◌+◌, ◌<◌, true, false, List, [], ◌∷◌, length, get_or, Some, None, refl, sym, ap, subst, ◌∙◌, cond, inl, inr, arith}
use Rattle.std.specs.Prelude.{Option, slice_get, is_some, is_none, ◌⊎◌}
use Rattle.std.specs.Option.{option_and_then, option_map_or}
use Rattle.std.proofs.Math.ListN.{set, length-set}
use Rattle.std.proofs.lemmas.List.{get_or-set_same}
use Rattle.std.proofs.lemmas.List.Sums.{sum_by-set}
use Rattle.std.proofs.lemmas.Bool.{cases_eq, false≢true}
use Rattle.std.proofs.lemmas.Option.{slice_get-get_or}
use Rattle.route_find.specs.declared.reach.Reach.{Reach}
use Rattle.route_find.specs.Distances.{reach_in}
use Rattle.route_find.specs.Search.{is_reached, distance_of, missing, IsWithin}

pub slice_get_set_same : {X : Type 0} (xs : List X) (i : ℕ) (y : X) → i < length xs → slice_get (set xs i y) i ≡ Some y
slice_get_set_same xs i y in_xs = slice_get-get_or (set xs i y) i y (omega (arith, length-set xs i y)) ∙ ap Some (get_or-set_same xs i y y in_xs)

pub slice_get_set_other : {X : Type 0} (xs : List X) (i j : ℕ) (y : X) → j ≢ i → slice_get (set xs i y) j ≡ slice_get xs j
slice_get_set_other [] i j y ne = refl
slice_get_set_other (x ∷ xs) zero zero y ne = absurd (ne refl)
slice_get_set_other (x ∷ xs) zero (suc j) y ne = refl
slice_get_set_other (x ∷ xs) (suc i) zero y ne = refl
slice_get_set_other (x ∷ xs) (suc i) (suc j) y ne = slice_get_set_other xs i j y (λ e. ne (ap suc e))

abbrev Rows : Type 0
Rows = List (Option Reach)

pub reach_set_same : (rows : Rows) (place : ℕ) (reach : Reach) → place < length rows → reach_in (set rows place (Some reach)) place ≡ Some reach
reach_set_same rows place reach in_rows = ap (λ o. option_and_then (λ (row : Option Reach). row) o) (slice_get_set_same rows place (Some reach) in_rows)

pub reach_set_other : (rows : Rows) (place other : ℕ) (row : Option Reach) → other ≢ place → reach_in (set rows place row) other ≡ reach_in rows other
reach_set_other rows place other row ne = ap (λ o. option_and_then (λ (row : Option Reach). row) o) (slice_get_set_other rows place other row ne)

-- a place that is reached is one
pub reached_within : (rows : Rows) (place : ℕ) → is_reached rows place ≡ true → place < length rows
reached_within [] place reached = absurd (false≢true reached)
reached_within (row ∷ rows) zero reached = omega arith
reached_within (row ∷ rows) (suc place) reached = omega (arith, reached_within rows place reached)

-- the row itself, where it is known that it's none
pub row_none : (rows : Rows) (place : ℕ) (d : Option Reach) → place < length rows → reach_in rows place ≡ None → get_or rows place d ≡ None
row_none [] place d in_rows none = absurd (omega arith)
row_none (row ∷ rows) zero d in_rows none = none
row_none (row ∷ rows) (suc place) d in_rows none = row_none rows place d (omega arith) none

pub no_row : (rows : Rows) (place : ℕ) (d : Option Reach) → place < length rows → is_none (get_or rows place d) ≡ true → reach_in rows place ≡ None
no_row [] place d in_rows none = absurd (omega arith)
no_row (None ∷ rows) zero d in_rows none = refl
no_row (Some reach ∷ rows) zero d in_rows none = absurd (false≢true none)
no_row (row ∷ rows) (suc place) d in_rows none = no_row rows place d (omega arith) none

pub some_row : (rows : Rows) (place : ℕ) (d : Option Reach) → place < length rows → is_none (get_or rows place d) ≡ false → is_reached rows place ≡ true
some_row [] place d in_rows some = absurd (omega arith)
some_row (None ∷ rows) zero d in_rows some = absurd (false≢true (sym some))
some_row (Some reach ∷ rows) zero d in_rows some = refl
some_row (row ∷ rows) (suc place) d in_rows some = some_row rows place d (omega arith) some

pub missing_set : (rows : Rows) (place : ℕ) (reach : Reach) → place < length rows → reach_in rows place ≡ None → missing (set rows place (Some reach)) + 1 ≡ missing rows
missing_set rows place reach in_rows none =
    let old : get_or rows place None ≡ None = row_none rows place None in_rows none in
    let written = sum_by-set (λ (row : Option Reach). cond (is_none row) 1 0) rows place (Some reach) None in_rows in
    subst (λ (row : Option Reach). missing (set rows place (Some reach)) + cond (is_none row) 1 0 ≡ missing rows + 0) old written ∙ omega arith

-- what was known stays
pub record Keeps (old new : Rows) : Type 0 where
  pub keeps : (place : ℕ) → is_reached old place ≡ true → reach_in new place ≡ reach_in old place

pub kept_reached : (old new : Rows) (place : ℕ) → Keeps old new → is_reached old place ≡ true → is_reached new place ≡ true
kept_reached old new place kept reached = ap (λ (o : Option Reach). is_some o) (kept.keeps place reached) ∙ reached

pub kept_distance : (old new : Rows) (place : ℕ) → Keeps old new → is_reached old place ≡ true → distance_of new place ≡ distance_of old place
kept_distance old new place kept reached = ap (λ (o : Option Reach). option_map_or (λ (reach : Reach). reach.distance) o 0) (kept.keeps place reached)

pub kept_within : (old new : Rows) (place most : ℕ) → Keeps old new → IsWithin old place most → IsWithin new place most
kept_within old new place most kept within = record {
  reached = kept_reached old new place kept within.reached;
  near = omega (arith, kept_distance old new place kept within.reached, within.near);
}

-- a row that was none
pub set_keeps : (rows : Rows) (place : ℕ) (reach : Reach) → reach_in rows place ≡ None → Keeps rows (set rows place (Some reach))
set_keeps rows place reach none = record {
  keeps = λ other reached. reach_set_other rows place other (Some reach)
      (λ same. false≢true (sym (ap (λ (o : Option Reach). is_some o) none) ∙ ap (λ k. is_reached rows k) (sym same) ∙ reached));
}

-- what is reached then is that place, or was reached before
pub set_cases : (rows : Rows) (place : ℕ) (reach : Reach) (other : ℕ) → is_reached (set rows place (Some reach)) other ≡ true → (other ≡ place) ⊎ (is_reached rows other ≡ true)
set_cases rows place reach other reached = elim (cases_eq other place) [
  | inl same ↦ inl same
  | inr ne ↦ inr (sym (ap (λ (o : Option Reach). is_some o) (reach_set_other rows place other (Some reach) ne)) ∙ reached)
]

-- its distance
pub set_distance : (rows : Rows) (place : ℕ) (reach : Reach) → place < length rows → distance_of (set rows place (Some reach)) place ≡ reach.distance
set_distance rows place reach in_rows = ap (λ (o : Option Reach). option_map_or (λ (reach : Reach). reach.distance) o 0) (reach_set_same rows place reach in_rows)

pub set_reached : (rows : Rows) (place : ℕ) (reach : Reach) → place < length rows → is_reached (set rows place (Some reach)) place ≡ true
set_reached rows place reach in_rows = ap (λ (o : Option Reach). is_some o) (reach_set_same rows place reach in_rows)
