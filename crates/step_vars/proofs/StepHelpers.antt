-- Each step has as many helpers as the first.
use Rattle.std.proofs.Common.{◌≡◌, ℕ, List, [], ◌∷◌, length, map, refl, sym, ◌∙◌, arith, inl, inr}
use Rattle.std.proofs.lemmas.Bool.{cases_lt}
use Rattle.step_rules.specs.Setting.{SettingValue}
use Rattle.trap_model.specs.Channels.{is_through}
use Rattle.step_vars.specs.declared.encoding.Encoding.{Encoding}
use Rattle.step_vars.specs.Items.{use_item}
use Rattle.step_vars.specs.Lists.{ions_of, places_of, junctions_of, numbers_where}
use Rattle.step_vars.specs.declared.item.Bound.{Bound}
use Rattle.step_vars.specs.Families.{bound, one_place, one_places, few_ions, few_ions_each, activities_at, one_activity_each, one_crossing_each}
use Rattle.step_vars.specs.Encoding.{helper_count, place_bounds, activity_bounds}
use Rattle.step_vars.proofs.HelperCounts.{helper_count-append}
use Rattle.step_vars.proofs.Limited.{places_counted, ions_counted, crossing_counted, zone_counted, slot_counted}

-- lists of the same lengths and limits have as many
same_helpers : (encoding : Encoding) (f g : ℕ → Bound) (xs : List ℕ)
    → ((x : ℕ) → length (f x).items ≡ length (g x).items) → ((x : ℕ) → (f x).limit ≡ (g x).limit)
    → helper_count encoding (map f xs) ≡ helper_count encoding (map g xs)
same_helpers encoding f g [] long limit = refl
same_helpers encoding f g (x ∷ xs) long limit = rw (long x, limit x, same_helpers encoding f g xs long limit) refl

same_activities : (setting : SettingValue) (t p : ℕ)
    → length (activities_at setting t p) ≡ length (activities_at setting 1 p)
same_activities setting t p = elim (cases_lt p (length setting.trap.zones)) [
  | inl zone ↦ zone_counted setting t p zone ∙ sym (zone_counted setting 1 p zone)
  | inr slot ↦ slot_counted setting t p slot ∙ sym (slot_counted setting 1 p slot)
]

pub place_helpers : (setting : SettingValue) (encoding : Encoding) (t : ℕ)
    → helper_count encoding (place_bounds setting t) ≡ helper_count encoding (place_bounds setting 1)
place_helpers setting encoding t =
    let ions = same_helpers encoding (one_place setting t) (one_place setting 1) (ions_of setting)
    (λ i. places_counted setting t i ∙ sym (places_counted setting 1 i)) (λ i. refl) in
    let places = same_helpers encoding (few_ions setting t) (few_ions setting 1) (places_of setting)
    (λ p. ions_counted setting t p ∙ sym (ions_counted setting 1 p)) (λ p. refl) in
    omega (
      arith,
      ions,
      places,
      helper_count-append encoding (one_places setting t) (few_ions_each setting t),
      helper_count-append encoding (one_places setting 1) (few_ions_each setting 1),
    )

pub activity_helpers : (setting : SettingValue) (encoding : Encoding) (t : ℕ)
    → helper_count encoding (activity_bounds setting t) ≡ helper_count encoding (activity_bounds setting 1)
activity_helpers setting encoding t =
    let crossings = λ (s junction : ℕ). bound 1 (map (λ c. use_item c s) (numbers_where (is_through junction) setting)) in
    let places = same_helpers encoding (λ p. bound 1 (activities_at setting t p)) (λ p. bound 1 (activities_at setting 1 p)) (places_of setting)
    (same_activities setting t) (λ p. refl) in
    let junctions = same_helpers encoding (crossings t) (crossings 1) (junctions_of setting)
    (λ j. crossing_counted setting t j ∙ sym (crossing_counted setting 1 j)) (λ j. refl) in
    omega (
      arith,
      places,
      junctions,
      helper_count-append encoding (one_activity_each setting t) (one_crossing_each setting t),
      helper_count-append encoding (one_activity_each setting 1) (one_crossing_each setting 1),
    )
