-- A setting within the limits of exact mode has few variables.
use Rattle.std.proofs.Common.{◌≡◌, ℕ, zero, suc, ◌+◌, ◌-◌, ◌*◌, ◌^◌, ◌<◌, ◌≤◌, Bool, List, [], ◌∷◌, length, map, refl, ap, subst, arith, inl, inr, length-append}
use Rattle.std.specs.Prelude.{filter}
use Rattle.std.specs.List.{flat_map, range_with_len}
use Rattle.std.proofs.lemmas.Bool.{cases_lt, cond_both}
use Rattle.std.proofs.Math.ListN.{length-map}
use Rattle.std.proofs.Math.Nat.{mul-le-mul_left, mul-le-mul_right}
use Rattle.trap_model.specs.Trap.{place_count}
use Rattle.trap_model.specs.Channels.{channels_of, is_through}
use Rattle.trap_parts.specs.Build.{IsTrap}
use Rattle.trap_model.proofs.Count.{few_channels}
use Rattle.step_rules.specs.Setting.{SettingValue}
use Rattle.circuit_core.specs.Order.{is_performed}
use Rattle.step_rules.specs.Guards.{is_able_for}
use Rattle.step_vars.specs.declared.encoding.Encoding.{Encoding}
use Rattle.step_vars.specs.declared.item.Bound.{Bound}
use Rattle.step_vars.specs.Items.{use_item}
use Rattle.step_vars.specs.Lists.{cell, between, ion_count, ions_of, places_of, junctions_of, zones_of, pairs_of, performed, able_zones, able_ops, acts_of, touches, numbers_where}
use Rattle.step_vars.specs.Families.{bound, one_place, few_ions, one_places, few_ions_each, activities_at, one_activity_each, one_crossing_each}
use Rattle.step_vars.specs.Limits.{fresh_for}
use Rattle.step_vars.specs.Numbering.{Numbering, later_sizes, sizes_at, part_size, before, first_helper}
use Rattle.step_vars.specs.Encoding.{IsSmall, helper_count, place_bounds, activity_bounds, numbering_of}
use Rattle.step_vars.proofs.Numbers.{before_closed, before_next}
use Rattle.step_vars.proofs.Limited.{places_counted, ions_counted, zone_counted, slot_counted, crossing_counted}
use Rattle.step_vars.proofs.HelperCounts.{helper_count-append, fresh_one_few, fresh_few}

-- ---- lengths

pub filter_few : {A : Type 0} (p : A → Bool) (xs : List A) → length (filter p xs) ≤ length xs
filter_few p [] = omega arith
filter_few p (x ∷ xs) =
    cond_both (p x) (x ∷ filter p xs) (filter p xs) (λ ys. length ys ≤ suc (length xs))
    (λ _. omega (arith, filter_few p xs)) (λ _. omega (arith, filter_few p xs))

pub flat_map_few : {A B : Type 0} (f : A → List B) (m : ℕ) (xs : List A) → ((x : A) → length (f x) ≤ m)
    → length (flat_map f xs) ≤ length xs * m
flat_map_few f m [] each = omega arith
flat_map_few f m (x ∷ xs) each =
    omega (arith, length-append (f x) (flat_map f xs), each x, flat_map_few f m xs each)

pub range_long : (a n : ℕ) → length (range_with_len a n) ≡ n
range_long a zero = refl
range_long a (suc n) = ap suc (range_long (a + 1) n)

-- rows of no more than ions each
pub few_pairs : (ions : ℕ) → ions ≤ 16 → length (pairs_of ions) ≤ 16 * 16
few_pairs ions h =
    let rows = flat_map_few (λ i. map (cell i) (between (i + 1) ions)) 16 (range_with_len 0 ions)
    (λ i. omega (arith, length-map (between (i + 1) ions) (cell i), range_long (i + 1) (ions - (i + 1)))) in
    omega (arith, rows, range_long 0 ions)

pub few_performed : (setting : SettingValue) → length (performed setting.circuit) ≤ length setting.circuit.ops
few_performed setting =
    omega (
      arith,
      filter_few (is_performed setting.circuit) (range_with_len 0 (length setting.circuit.ops)),
      range_long 0 (length setting.circuit.ops),
    )

pub few_acts : (setting : SettingValue) → length setting.circuit.ops ≤ 200 → length setting.trap.zones ≤ 32
    → length (acts_of setting) ≤ 200 * 32
few_acts setting ops zones =
    let rows = flat_map_few (λ g. map (cell g) (able_zones setting g)) 32 (performed setting.circuit)
    (λ g. omega (
      arith,
      length-map (able_zones setting g) (cell g),
      filter_few (λ z. is_able_for setting z g) (zones_of setting),
      range_long 0 (length setting.trap.zones),
    )) in
    omega (arith, rows, few_performed setting)

-- ---- helpers

helpers_few : (encoding : Encoding) (f : ℕ → Bound) (m : ℕ) (xs : List ℕ)
    → ((x : ℕ) → fresh_for encoding (length (f x).items) (f x).limit ≤ m)
    → helper_count encoding (map f xs) ≤ length xs * m
helpers_few encoding f m [] each = omega arith
helpers_few encoding f m (x ∷ xs) each = omega (arith, each x, helpers_few encoding f m xs each)

pub few_activities : (setting : SettingValue) (t p : ℕ) → IsTrap setting.trap → ion_count setting ≤ 16
    → length setting.circuit.ops ≤ 200
    → length (activities_at setting t p) ≤ 2504
few_activities setting t p trap ions ops =
    let passing : length (filter (touches p) (channels_of setting.trap)) ≤ 2048 =
    omega (arith, filter_few (touches p) (channels_of setting.trap), few_channels setting.trap trap) in
    let able : length (able_ops setting p) ≤ 200 =
    omega (arith, filter_few (is_able_for setting p) (performed setting.circuit), few_performed setting) in
    elim (cases_lt p (length setting.trap.zones)) [
      | inl zone ↦ omega (arith, zone_counted setting t p zone, few_pairs (ion_count setting) ions)
      | inr slot ↦ omega (arith, slot_counted setting t p slot)
    ]

few_place_helpers : (setting : SettingValue) (encoding : Encoding) (steps : ℕ) → IsSmall setting steps
    → helper_count encoding (place_bounds setting 1) ≤ 16 * 48 + 48 * 256
few_place_helpers setting encoding steps small =
    let places = helpers_few encoding (one_place setting 1) 48 (ions_of setting)
    (λ i. omega (
      arith,
      fresh_one_few encoding (length (one_place setting 1 i).items),
      places_counted setting 1 i,
      small.places,
    )) in
    let ions = helpers_few encoding (few_ions setting 1) 256 (places_of setting)
    (λ p. fresh_few encoding (length (few_ions setting 1 p).items) (few_ions setting 1 p).limit
    (omega (arith, ions_counted setting 1 p, small.ions))) in
    omega (
      arith,
      places,
      ions,
      range_long 0 (ion_count setting),
      range_long 0 (place_count setting.trap),
      small.ions,
      small.places,
      helper_count-append encoding (one_places setting 1) (few_ions_each setting 1),
    )

few_activity_helpers : (setting : SettingValue) (encoding : Encoding) (steps : ℕ) → IsTrap setting.trap
    → IsSmall setting steps
    → helper_count encoding (activity_bounds setting 1) ≤ 48 * 2504 + 32 * 2048
few_activity_helpers setting encoding steps trap small =
    let crossing = λ (junction : ℕ). bound 1
    (map (λ c. use_item c 1) (numbers_where (is_through junction) setting)) in
    let places = helpers_few encoding (λ p. bound 1 (activities_at setting 1 p)) 2504 (places_of setting)
    (λ p. omega (
      arith,
      fresh_one_few encoding (length (activities_at setting 1 p)),
      few_activities setting 1 p trap small.ions small.ops,
    )) in
    let junctions = helpers_few encoding crossing 2048 (junctions_of setting)
    (λ j. omega (
      arith,
      fresh_one_few encoding (length (crossing j).items),
      crossing_counted setting 1 j,
      filter_few (is_through j) (channels_of setting.trap),
      few_channels setting.trap trap,
    )) in
    omega (
      arith,
      places,
      junctions,
      range_long 0 (place_count setting.trap),
      range_long 0 (length setting.trap.junctions),
      small.places,
      trap.junctions,
      helper_count-append encoding (one_activity_each setting 1) (one_crossing_each setting 1),
    )

-- ---- variables

product_few : (a b m k : ℕ) → a ≤ m → b ≤ k → a * b ≤ m * k
product_few a b m k h l = omega (arith, mul-le-mul_right b h, mul-le-mul_left m l)

-- a part has fewer than 2^20 variables
small_part : (setting : SettingValue) (encoding : Encoding) (steps : ℕ) → IsTrap setting.trap
    → IsSmall setting steps
    → part_size (later_sizes (numbering_of setting encoding)) ≤ 2 ^ 20
unfolding numbering_of
small_part setting encoding steps trap small =
    let ions = ion_count setting in
    let places = place_count setting.trap in
    let channels = length (channels_of setting.trap) in
    let pairs = length (pairs_of ions) in
    let zones = length setting.trap.zones in
    let few = few_channels setting.trap trap in
    let ats = product_few ions places 16 48 small.ions small.places in
    let leaves = product_few ions channels 16 2048 small.ions few in
    let swaps = product_few pairs zones 256 32 (omega (arith, few_pairs ions small.ions)) trap.zones in
    omega (
      arith,
      ats,
      leaves,
      swaps,
      few,
      few_pairs ions small.ions,
      few_acts setting small.ops trap.zones,
      length-map (performed setting.circuit) (λ g. cell g 0),
      few_performed setting,
      small.ops,
      few_place_helpers setting encoding steps small,
      few_activity_helpers setting encoding steps trap small,
    )

pub variables_fit : (setting : SettingValue) (encoding : Encoding) (t : ℕ) → IsTrap setting.trap
    → IsSmall setting t
    → before (numbering_of setting encoding) (t + 1) < 2 ^ 31
variables_fit setting encoding t trap small =
    let n = numbering_of setting encoding in
    let later = part_size (later_sizes n) in
    let parts = product_few t later 48 (2 ^ 20) small.time (small_part setting encoding t trap small) in
    let next : suc t ≡ t + 1 = omega arith in
    subst (λ k. before n k < 2 ^ 31) next
    (omega (arith, before_closed n t, parts, small_part setting encoding t trap small))

pub helpers_within : (n : Numbering) (t : ℕ) → first_helper n t + (sizes_at n t).helpers ≤ before n (t + 1)
helpers_within n t = omega (arith, before_next n t)

pub helpers_fit : (setting : SettingValue) (encoding : Encoding) (t : ℕ) → IsTrap setting.trap
    → IsSmall setting t
    → first_helper (numbering_of setting encoding) t
    + (sizes_at (numbering_of setting encoding) t).helpers ≤ 2 ^ 31
helpers_fit setting encoding t trap small =
    omega (arith, helpers_within (numbering_of setting encoding) t, variables_fit setting encoding t trap small)
