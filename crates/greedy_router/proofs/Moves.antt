-- What changes when one ion goes from place to place.
use Rattle.std.proofs.Common.{◌≡◌, ◌≢◌, ℕ, ◌+◌, ◌-◌, ◌<◌, ◌≤◌, Bool, true, false, cond, ◌&&◌, List, [], ◌∷◌, length, swap, refl, sym, ap, subst, ◌∙◌, inl, inr, arith, get_or-set_same, get_or-set_other, length-append}
use Rattle.std.specs.Prelude.{Option, slice_set, ◌==◌}
use Rattle.std.specs.Option.{option_map_or}
use Rattle.std.proofs.lemmas.Bool.{cases_eq, eq-eqb, ne_eqb}
use Rattle.std.proofs.lemmas.List.{length-set, length-reverse, length-drop}
use Rattle.std.proofs.lemmas.List.Edits.{length-swap}
use Rattle.qc_base.specs.declared.ids.Ion.{Ion}
use Rattle.qc_base.specs.declared.ids.End.{End}
use Rattle.qc_base.specs.declared.ids.PlaceId.{PlaceId}
use Rattle.trap_parts.specs.Parts.{TrapValue}
use Rattle.trap_model.specs.declared.channel.Channel.{Channel}
use Rattle.ion_chain.specs.Passing.{leaving, left, joined}
use Rattle.ion_chain.specs.Transfer.{list_at, after_transfer}
use Rattle.ion_chain.proofs.Passed.{length-outward, length-left}
use Rattle.ion_chain.proofs.Transfers.{list_at-after_transfer}
use Rattle.step_rules.specs.ActionChannel.{transfer}
use Rattle.route_find.proofs.Rows.{slice_get_set_same, slice_get_set_other}
use Rattle.greedy_router.specs.Places.{count_of, one_if, one_if_both, IsInZone, AreHomes, IsMoved, home_of}
use Rattle.greedy_router.proofs.Counts.{one_same, one_apart, count-left, count-joined, count-swap}

-- ---- pairs of numbers

both_tests : (a b : Bool) → b ≡ true → cond {A = ℕ} (a && b) 1 0 ≡ cond {A = ℕ} a 1 0
both_tests true b e = ap (λ b. cond {A = ℕ} b 1 0) e
both_tests false b e = refl

neither_test : (a b : Bool) → b ≡ false → cond {A = ℕ} (a && b) 1 0 ≡ 0
neither_test true b e = ap (λ b. cond {A = ℕ} b 1 0) e
neither_test false b e = refl

same_ion : (ion place other : ℕ) → one_if_both ion ion place other ≡ one_if place other
same_ion ion place other = ap (λ b. cond {A = ℕ} (b && place == other) 1 0) (eq-eqb ion ion refl)

other_ion : (ion other p q : ℕ) → other ≢ ion → one_if_both other ion p q ≡ 0
other_ion ion other p q ne = ap (λ b. cond {A = ℕ} (b && p == q) 1 0) (ne_eqb other ion ne)

same_place : (ion other p q : ℕ) → p ≡ q → one_if_both other ion p q ≡ one_if other ion
same_place ion other p q e = both_tests (other == ion) (p == q) (eq-eqb p q e)

other_place : (ion other p q : ℕ) → p ≢ q → one_if_both other ion p q ≡ 0
other_place ion other p q ne = neither_test (other == ion) (p == q) (ne_eqb p q ne)

alone : (other : ℕ) (ion : Ion) → count_of other (ion ∷ []) ≡ one_if other ion.0
alone other ion = elim (cases_eq other ion.0) [
  | inl same ↦ omega (arith, one_same ion.0 other (sym same), one_same other ion.0 same)
  | inr apart ↦ omega (arith, one_apart ion.0 other (λ e. apart (sym e)), one_apart other ion.0 apart)
]

-- ---- one after the other

pub moved_none : (config : List (List Ion)) (ion place : ℕ) → IsMoved config config ion place place
moved_none config ion place = record { places = refl; ions = λ other p. refl; lengths = λ p. refl }

pub moved_then : (a b c : List (List Ion)) (ion p q r : ℕ) → IsMoved a b ion p q → IsMoved b c ion q r → IsMoved a c ion p r
moved_then a b c ion p q r first next = record {
  places = next.places ∙ first.places;
  ions = λ other place. omega (arith, first.ions other place, next.ions other place);
  lengths = λ place. omega (arith, first.lengths place, next.lengths place);
}

-- ---- through a channel

length-leaving : (end : End) (count : ℕ) (ions : List Ion) → length (leaving end count ions) ≡ length ions - (length ions - count)
length-leaving end count ions = rw (length-drop, length-outward) refl

length-joined : (into : End) (coming ions : List Ion) → length (joined into coming ions) ≡ length ions + length coming
length-joined into coming ions = rw (length-outward, length-append, length-outward, length-reverse) refl

pub moved_through : (lists : List (List Ion)) (channel : Channel) (ion : Ion) → channel.from.0 < length lists → channel.to.0 < length lists → channel.from.0 ≢ channel.to.0
    → leaving channel.from_end 1 (list_at lists channel.from.0) ≡ ion ∷ [] → IsMoved lists (after_transfer lists (transfer channel 1)) ion.0 channel.from.0 channel.to.0
moved_through lists channel ion in_from in_to apart leaves =
    let from : ℕ = channel.from.0 in
    let to : ℕ = channel.to.0 in
    let source : List Ion = list_at lists from in
    let target : List Ion = list_at lists to in
    let going : List Ion = leaving channel.from_end 1 source in
    let gone : List Ion = left channel.from_end 1 source in
    let come : List Ion = joined channel.to_end going target in
    let middle : List (List Ion) = slice_set lists from gone in
    let new : List (List Ion) = after_transfer lists (transfer channel 1) in
    let at_from : list_at new from ≡ gone = get_or-set_other middle to from come [] apart ∙ get_or-set_same lists from gone [] in_from in
    let at_to : list_at new to ≡ come = get_or-set_same middle to come [] (omega (arith, in_to, length-set lists from gone)) in
    let elsewhere : (place : ℕ) → place ≢ from → place ≢ to → list_at new place ≡ list_at lists place =
    λ place f t. list_at-after_transfer lists (transfer channel 1) place (λ e. f (sym e)) (λ e. t (sym e)) in
    let one : length going ≡ 1 = ap length leaves in
    let ions_at : (other place : ℕ) → count_of other (list_at new place) + one_if_both other ion.0 place from ≡ count_of other (list_at lists place) + one_if_both other ion.0 place to =
    λ other place. elim (cases_eq place from) [
      | inl same ↦
          (let now : count_of other (list_at new place) ≡ count_of other gone = ap (count_of other) (ap (list_at new) same ∙ at_from) in
          let was : count_of other (list_at lists place) ≡ count_of other source = ap (λ (p : ℕ). count_of other (list_at lists p)) same in
          let it : count_of other going ≡ one_if other ion.0 = ap (count_of other) leaves ∙ alone other ion in
          omega (arith, now, was, it, count-left other channel.from_end 1 source, same_place ion.0 other place from same, other_place ion.0 other place to (λ e. apart (sym same ∙ e))))
      | inr f ↦ elim (cases_eq place to) [
        | inl same ↦
            (let now : count_of other (list_at new place) ≡ count_of other come = ap (count_of other) (ap (list_at new) same ∙ at_to) in
            let was : count_of other (list_at lists place) ≡ count_of other target = ap (λ (p : ℕ). count_of other (list_at lists p)) same in
            let it : count_of other going ≡ one_if other ion.0 = ap (count_of other) leaves ∙ alone other ion in
            omega (arith, now, was, it, count-joined other channel.to_end going target, same_place ion.0 other place to same, other_place ion.0 other place from f))
        | inr t ↦ omega (arith, ap (count_of other) (elsewhere place f t), other_place ion.0 other place from f, other_place ion.0 other place to t)
      ]
    ] in
    let lengths_at : (place : ℕ) → length (list_at new place) + one_if place from ≡ length (list_at lists place) + one_if place to =
    λ place. elim (cases_eq place from) [
      | inl same ↦
          (let now : length (list_at new place) ≡ length gone = ap length (ap (list_at new) same ∙ at_from) in
          let was : length (list_at lists place) ≡ length source = ap (λ (p : ℕ). length (list_at lists p)) same in
          omega (arith, now, was, one, length-leaving channel.from_end 1 source, length-left channel.from_end 1 source, one_same place from same, one_apart place to (λ e. apart (sym same ∙ e))))
      | inr f ↦ elim (cases_eq place to) [
        | inl same ↦
            (let now : length (list_at new place) ≡ length come = ap length (ap (list_at new) same ∙ at_to) in
            let was : length (list_at lists place) ≡ length target = ap (λ (p : ℕ). length (list_at lists p)) same in
            omega (arith, now, was, one, length-joined channel.to_end going target, one_same place to same, one_apart place from f))
        | inr t ↦ omega (arith, ap length (elsewhere place f t), one_apart place from f, one_apart place to t)
      ]
    ] in
    record { places = length-set middle to come ∙ length-set lists from gone; ions = ions_at; lengths = lengths_at }

pub moved_swap : (config : List (List Ion)) (zone index ion : ℕ) → zone < length config → index + 1 < length (list_at config zone)
    → IsMoved config (slice_set config zone (swap (list_at config zone) index (index + 1))) ion zone zone
moved_swap config zone index ion there h =
    let old : List Ion = list_at config zone in
    let swapped : List Ion = swap old index (index + 1) in
    let new : List (List Ion) = slice_set config zone swapped in
    let here : list_at new zone ≡ swapped = get_or-set_same config zone swapped [] there in
    record {
      places = length-set config zone swapped;
      ions = λ other place. elim (cases_eq place zone) [
        | inl same ↦
            (let now : count_of other (list_at new place) ≡ count_of other swapped = ap (count_of other) (ap (list_at new) same ∙ here) in
            let was : count_of other (list_at config place) ≡ count_of other old = ap (λ (p : ℕ). count_of other (list_at config p)) same in
            omega (arith, now, was, count-swap other old index h))
        | inr apart ↦ omega (arith, ap (count_of other) (get_or-set_other config zone place swapped [] apart))
      ];
      lengths = λ place. elim (cases_eq place zone) [
        | inl same ↦
            (let now : length (list_at new place) ≡ length swapped = ap length (ap (list_at new) same ∙ here) in
            let was : length (list_at config place) ≡ length old = ap (λ (p : ℕ). length (list_at config p)) same in
            omega (arith, now, was, length-swap old index (index + 1)))
        | inr apart ↦ omega (arith, ap length (get_or-set_other config zone place swapped [] apart))
      ];
    }

-- ---- where ions are then

pub present_moved : (trap : TrapValue) (before after : List (List Ion)) (ion from to : ℕ) → IsInZone trap before ion from → IsMoved before after ion from to → to < length trap.zones → IsInZone trap after ion to
present_moved trap before after ion from to present moved there = record {
  there = there;
  once = λ place. omega (arith, moved.ions ion place, present.once place, same_ion ion place from, same_ion ion place to);
}

pub present_still : (trap : TrapValue) (before after : List (List Ion)) (ion from to other zone : ℕ) → IsInZone trap before other zone → IsMoved before after ion from to → other ≢ ion → IsInZone trap after other zone
present_still trap before after ion from to other zone present moved apart = record {
  there = present.there;
  once = λ place. omega (arith, moved.ions other place, present.once place, other_ion ion other place from apart, other_ion ion other place to apart);
}

home_same : (homes : List PlaceId) (ion : ℕ) (to : PlaceId) → ion < length homes → home_of (slice_set homes ion to) ion ≡ to.0
home_same homes ion to h = ap (λ (o : Option PlaceId). option_map_or (λ (home : PlaceId). home.0) o 0) (slice_get_set_same homes ion to h)

home_other : (homes : List PlaceId) (ion other : ℕ) (to : PlaceId) → other ≢ ion → home_of (slice_set homes ion to) other ≡ home_of homes other
home_other homes ion other to apart = ap (λ (o : Option PlaceId). option_map_or (λ (home : PlaceId). home.0) o 0) (slice_get_set_other homes ion other to apart)

pub homes_moved : (trap : TrapValue) (before after : List (List Ion)) (homes : List PlaceId) (ion : ℕ) (to : PlaceId) → AreHomes trap before homes → ion < length homes
    → IsMoved before after ion (home_of homes ion) to.0 → to.0 < length trap.zones → AreHomes trap after (slice_set homes ion to)
homes_moved trap before after homes ion to are h moved there =
    let new : List PlaceId = slice_set homes ion to in
    let len : length new ≡ length homes = length-set homes ion to in
    let from : ℕ = home_of homes ion in
    record {
      present = λ other in_homes. elim (cases_eq other ion) [
        | inl same ↦
            subst (λ (i : ℕ). IsInZone trap after i (home_of new i)) (sym same)
            (subst (IsInZone trap after ion) (sym (home_same homes ion to h)) (present_moved trap before after ion from to.0 (are.present ion h) moved there))
        | inr apart ↦
            subst (IsInZone trap after other) (sym (home_other homes ion other to apart))
            (present_still trap before after ion from to.0 other (home_of homes other) (are.present other (omega (arith, in_homes, len))) moved apart)
      ];
      known = λ other place some. elim (cases_eq other ion) [
        | inl same ↦ omega (arith, same, h, len)
        | inr apart ↦
            (let was : 1 ≤ count_of other (list_at before place) = omega (arith, some, moved.ions other place, other_ion ion other place from apart, other_ion ion other place to.0 apart) in
            omega (arith, are.known other place was, len))
      ];
    }
