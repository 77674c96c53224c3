-- Levels of the spots of a footprint.
use Rattle.std.proofs.Common.{◌≡◌, ℕ, max, List, [], ◌∷◌, ◌++◌, take, get_or, Some, refl, sym, ap, subst, ◌∙◌, inl, inr, arith}
use Rattle.std.specs.Prelude.{slice_get, slice_index, Contains}
use Rattle.std.proofs.lemmas.Bool.{cases_eq}
use Rattle.std.proofs.lemmas.List.Elements.{Contains-append_left, Contains-append_right, Contains-append_cases}
use Rattle.trap_parts.specs.Parts.{TrapValue}
use Rattle.step_rules.specs.declared.spots.Footprint.{Footprint}
use Rattle.step_rules.specs.declared.action.Action.{Action}
use Rattle.step_rules.specs.Steps.{Spot, place, junction, footprint}
use Rattle.step_rules.specs.Footprint.{spots, place_spots, junction_spots}
use Rattle.compact.specs.Levels.{IsRaised, IsGreatest, AreRaised, greatest_of, SpotsValue, spot_level}
use Rattle.compact.specs.Latest.{IsAt, IsLast}
use Rattle.compact.specs.Clock.{AreSpots}
use Rattle.compact.proofs.Last.{none_last}
use Rattle.compact.proofs.Raising.{greatest_none, greatest_more, raised_none, raised_twice}

only : {W : Type 0} (x y : W) → Contains (x ∷ []) y → x ≡ y
only x y it = let first : it.0 ≡ 0 = omega (arith, it.1) in ap (λ (n : ℕ). get_or (x ∷ []) n y) (sym first) ∙ it.2

nothing : {W : Type 0} (x : W) → Contains [] x → ⊥
nothing x it = omega (arith, it.1)

pub greatest_list : {W : Type 0} (level : W → ℕ) (xs : List W) → IsGreatest (Contains xs) level (greatest_of level xs)
greatest_list {W} level [] = greatest_none (Contains []) level (λ x it. nothing x it)
greatest_list {W} level (x ∷ xs) =
    greatest_more (Contains xs) (Contains (x ∷ xs)) level (greatest_of level xs) (level x) (max (level x) (greatest_of level xs)) x refl refl
    (λ y it. Contains-append_right (x ∷ []) xs y it) (0, omega arith, refl)
    (λ y it. elim (Contains-append_cases (x ∷ []) xs y it) [
      | inl here ↦ inr (only x y here)
      | inr later ↦ inl later
    ]) (greatest_list level xs)

pub greatest_append : {W : Type 0} (level : W → ℕ) (xs ys : List W) → greatest_of level (xs ++ ys) ≡ max (greatest_of level xs) (greatest_of level ys)
greatest_append level [] ys = omega arith
greatest_append level (x ∷ xs) ys = omega (arith, greatest_append level xs ys)

pub greatest_footprint : (levels : SpotsValue) (works : Footprint) (first second third : ℕ) → first ≡ slice_index levels.places works.first.0 → second ≡ greatest_of (spot_level levels) (place_spots works.second)
    → third ≡ greatest_of (spot_level levels) (junction_spots works.junction) → IsGreatest (Contains (spots works)) (spot_level levels) (max (max first second) third)
greatest_footprint levels works first second third a b c =
    let whole : greatest_of (spot_level levels) (spots works) ≡ max (max first second) third = omega (arith, a, b, c, greatest_append (spot_level levels) (place_spots works.second) (junction_spots works.junction)) in
    subst (IsGreatest (Contains (spots works)) (spot_level levels)) whole (greatest_list (spot_level levels) (spots works))

-- ---- raising

pub place_raised : (old new : SpotsValue) (number level : ℕ) → IsRaised old.places new.places number level → new.junctions ≡ old.junctions → AreRaised (Contains (place number ∷ [])) (spot_level old) (spot_level new) level
place_raised old new number level is same (place other) = elim (cases_eq other number) [
  | inl here ↦ inl ((0, omega arith, ap place (sym here)), ap (slice_index new.places) here ∙ is.here ∙ ap (λ (n : ℕ). max (slice_index old.places n) level) (sym here))
  | inr elsewhere ↦ inr (λ it. let e : place number ≡ place other = only (place number) (place other) it in elsewhere cc, is.others other elsewhere)
]
place_raised old new number level is same (junction other) = inr (λ it. let e : place number ≡ junction other = only (place number) (junction other) it in cc, ap (λ (l : List ℕ). slice_index l other) same)

pub junction_raised : (old new : SpotsValue) (number level : ℕ) → IsRaised old.junctions new.junctions number level → new.places ≡ old.places → AreRaised (Contains (junction number ∷ [])) (spot_level old) (spot_level new) level
junction_raised old new number level is same (junction other) = elim (cases_eq other number) [
  | inl here ↦ inl ((0, omega arith, ap junction (sym here)), ap (slice_index new.junctions) here ∙ is.here ∙ ap (λ (n : ℕ). max (slice_index old.junctions n) level) (sym here))
  | inr elsewhere ↦ inr (λ it. let e : junction number ≡ junction other = only (junction number) (junction other) it in elsewhere cc, is.others other elsewhere)
]
junction_raised old new number level is same (place other) = inr (λ it. let e : junction number ≡ place other = only (junction number) (place other) it in cc, ap (λ (l : List ℕ). slice_index l other) same)

pub no_spot_raised : (old : SpotsValue) (level : ℕ) → AreRaised (Contains []) (spot_level old) (spot_level old) level
no_spot_raised old level = raised_none (Contains []) (spot_level old) level (λ spot it. nothing spot it)

pub footprint_raised : (works : Footprint) (old one two new : SpotsValue) (level : ℕ) → AreRaised (Contains (place works.first.0 ∷ [])) (spot_level old) (spot_level one) level
    → AreRaised (Contains (place_spots works.second)) (spot_level one) (spot_level two) level → AreRaised (Contains (junction_spots works.junction)) (spot_level two) (spot_level new) level
    → AreRaised (Contains (spots works)) (spot_level old) (spot_level new) level
footprint_raised works old one two new level first second third =
    let rest : List Spot = place_spots works.second ++ junction_spots works.junction in
    let later : AreRaised (Contains rest) (spot_level one) (spot_level new) level =
    raised_twice (Contains (place_spots works.second)) (Contains (junction_spots works.junction)) (Contains rest) (spot_level one) (spot_level two) (spot_level new) level
    (λ spot it. Contains-append_left (place_spots works.second) (junction_spots works.junction) spot it) (λ spot it. Contains-append_right (place_spots works.second) (junction_spots works.junction) spot it)
    (λ spot it. Contains-append_cases (place_spots works.second) (junction_spots works.junction) spot it) second third in
    raised_twice (Contains (place works.first.0 ∷ [])) (Contains rest) (Contains (spots works)) (spot_level old) (spot_level one) (spot_level new) level
    (λ spot it. Contains-append_left (place works.first.0 ∷ []) rest spot it) (λ spot it. Contains-append_right (place works.first.0 ∷ []) rest spot it)
    (λ spot it. Contains-append_cases (place works.first.0 ∷ []) rest spot it) first later

-- ---- before the first action

no_spot : (trap : TrapValue) (actions : List Action) (spot : Spot) → IsLast (IsAt (take 0 actions) []) (λ (a : Action). Contains (footprint trap a) spot) 0
no_spot trap actions spot = none_last (IsAt (take 0 actions) []) (λ (a : Action). Contains (footprint trap a) spot)
    (λ action time there it. let at : IsAt (take 0 actions) [] action time = there in let e : slice_get [] at.position ≡ Some time = at.is_time in cc)

pub spots_start : (trap : TrapValue) (actions : List Action) → AreSpots trap (IsAt (take 0 actions) []) (record { places = []; junctions = [] })
spots_start trap actions (place number) = no_spot trap actions (place number)
spots_start trap actions (junction number) = no_spot trap actions (junction number)
