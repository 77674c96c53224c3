-- The lists of which at most so many may hold have items of the encoding.
use Rattle.std.proofs.Common.{◌≡◌, ◌≢◌, ℕ, suc, ◌+◌, ◌-◌, ◌*◌, ◌<◌, ◌≤◌, Bool, true, false, cond, Some, List, [], ◌∷◌, ◌++◌, map, length, refl, ap, sym, ◌∙◌, subst, arith, inl, inr, length-append}
use Rattle.std.specs.Prelude.{IsSome, filter}
use Rattle.std.specs.List.{AllByRecursion, flat_map, range_with_len}
use Rattle.circuit_core.specs.Order.{is_performed}
use Rattle.trap_model.specs.Trap.{place_count, limit_of}
use Rattle.trap_model.specs.Channels.{is_through, channels_of}
use Rattle.trap_parts.specs.Build.{IsTrap}
use Rattle.trap_model.specs.declared.channel.Channel.{Channel}
use Rattle.step_rules.specs.Setting.{SettingValue}
use Rattle.step_rules.specs.Guards.{is_able_for}
use Rattle.step_vars.specs.declared.cells.Cell.{Cell}
use Rattle.step_vars.specs.declared.item.Item.{Item}
use Rattle.step_vars.specs.Items.{at_item, use_item, swap_item, act_item, goal_item, time_of, so}
use Rattle.step_vars.specs.Numbering.{number_of, literal_of, rank}
use Rattle.step_vars.specs.Lists.{cell, ion_count, ions_of, places_of, zones_of, junctions_of, pairs_of, between, performed, able_ops, numbers_where, touches}
use Rattle.step_vars.specs.Families.{pairs_in, bound, one_place, few_ions, one_places, few_ions_each, activities_at, activities_in_zone, one_activity_each, one_crossing_each}
use Rattle.step_vars.specs.Encoding.{VarsValue, IsSmall, place_bounds, activity_bounds}
use Rattle.std.proofs.lemmas.Bool.{cases_lt, lt-ltb, le-ltb}
use Rattle.std.proofs.lemmas.List.FromFn.{length-map-range_with_len}
use Rattle.std.proofs.Math.ListN.{length-map}
use Rattle.std.proofs.Math.Nat.{mul-le-mul_left, mul-le-mul_right}
use Rattle.trap_model.proofs.Count.{few_channels}
use Rattle.clause_families.specs.Encoded.{Differ, IsEncoded, IsEncodedBound}
use Rattle.step_clauses.specs.Loops.{IsPair, IsAct, HasZones, Loops}
use Rattle.clause_families.proofs.Every.{all_append, all_weaker, all_both, all_map, all_filter, all_always, all_range, differ_map, differ_range, differ_filter, differ_append, differ_flat_map}
use Rattle.clause_families.proofs.Numbered.{first_number, second_number, has_at, has_use, has_swap, has_act}
use Rattle.clause_families.proofs.Literals.{number_is}
use Rattle.step_clauses.proofs.Within.{of_passing, at_number}
use Rattle.step_vars.proofs.Limited.{limit_some, places_counted, ions_counted, zone_counted, slot_counted, crossing_counted}
use Rattle.step_vars.specs.declared.item.Item.TheVariants.{At, Ord, Use, Leave, Swap, Act, Done, Goal}
use Rattle.step_clauses.proofs.Encodes.{numbers_in, numbers_once}

-- ---- items of a step other than its goal

-- the item is of the encoding, of that time, and no goal
pub record IsOfStep (v : VarsValue) (t : ℕ) (item : Item) : Type 0 where
  pub encoded : IsEncoded v item
  pub time : time_of item ≡ t
  pub other : item ≢ goal_item t

-- items of step t have numbers below the first helper
abbrev pub Below : VarsValue → ℕ → ℕ → Type 0
Below v t first = (item : Item) (var : ℕ) → number_of v.numbering item ≡ Some var → time_of item ≤ t → item ≢ goal_item t → var < first

step_bound : (v : VarsValue) (t first limit : ℕ) (items : List Item) → 1 ≤ limit → length items ≤ 32768 → Below v t first
    → AllByRecursion (IsOfStep v t) items → Differ items → IsEncodedBound v first (bound limit items)
step_bound v t first limit items some few below all d = record {
  limit = record { some = some; few = few };
  items = all_weaker (IsOfStep v t) (IsEncoded v) items (λ item h. h.encoded) all;
  differ = d;
  below = all_weaker (IsOfStep v t) (λ item. (literal_of v.numbering (so item)).var < first) items
      (λ item h. below item _ (number_is v.numbering (so item) h.encoded.number) (omega (arith, h.time)) h.other) all;
}

-- ---- where ions are

at_of_step : (v : VarsValue) (i p t : ℕ) → i < v.numbering.ions → p < v.numbering.places → t ≤ v.steps → IsOfStep v t (at_item i p t)
at_of_step v i p t hi hp ht = record { encoded = has_at v i p t hi hp ht; time = refl; other = λ e. absurd (cc) }

one_place_bound : (v : VarsValue) (s : SettingValue) (t first i : ℕ) → Loops v.numbering s → place_count s.trap ≤ 48 → t ≤ v.steps → Below v t first → i < v.numbering.ions → IsEncodedBound v first (one_place s t i)
one_place_bound v s t first i loops small ht below hi =
    step_bound v t first 1 (map (λ p. at_item i p t) (places_of s)) (omega arith) (omega (arith, places_counted s t i, small)) below
    (all_map (λ p. p < v.numbering.places) (IsOfStep v t) (λ p. at_item i p t) (places_of s) (λ p hp. at_of_step v i p t hi hp ht) loops.places)
    (differ_map (λ p. at_item i p t) (places_of s) (λ x y e. ap second_number e) (differ_range 0 (place_count s.trap)))

few_ions_bound : (v : VarsValue) (s : SettingValue) (t first p : ℕ) → Loops v.numbering s → IsTrap s.trap → ion_count s ≤ 16 → t ≤ v.steps → Below v t first → p < place_count s.trap → p < v.numbering.places → IsEncodedBound v first (few_ions s t p)
few_ions_bound v s t first p loops trap small ht below inside hp =
    step_bound v t first (limit_of s.trap p) (map (λ i. at_item i p t) (ions_of s)) (limit_some s.trap trap p inside) (omega (arith, ions_counted s t p, small)) below
    (all_map (λ i. i < v.numbering.ions) (IsOfStep v t) (λ i. at_item i p t) (ions_of s) (λ i hi. at_of_step v i p t hi hp ht) loops.ions)
    (differ_map (λ i. at_item i p t) (ions_of s) (λ x y e. ap first_number e) (differ_range 0 (ion_count s)))

pub places_bounded : (v : VarsValue) (s : SettingValue) (t first : ℕ) → Loops v.numbering s → IsTrap s.trap → ion_count s ≤ 16 → place_count s.trap ≤ 48 → t ≤ v.steps → Below v t first
    → AllByRecursion (IsEncodedBound v first) (place_bounds s t)
places_bounded v s t first loops trap ions places ht below =
    all_append (IsEncodedBound v first) (one_places s t) (few_ions_each s t)
    (all_map (λ i. i < v.numbering.ions) (IsEncodedBound v first) (one_place s t) (ions_of s) (λ i hi. one_place_bound v s t first i loops places ht below hi) loops.ions)
    (all_map (λ p. (p < place_count s.trap) × (p < v.numbering.places)) (IsEncodedBound v first) (few_ions s t) (places_of s)
    (λ p h. few_ions_bound v s t first p loops trap ions ht below h.0 h.1)
    (all_both (λ p. p < place_count s.trap) (λ p. p < v.numbering.places) (places_of s) (all_range (place_count s.trap)) loops.places))

-- ---- what happens

use_of_step : (v : VarsValue) (c t : ℕ) → c < v.numbering.channels → 0 < t → t ≤ v.steps → IsOfStep v t (use_item c t)
use_of_step v c t hc h0 ht = record { encoded = has_use v c t hc h0 ht; time = refl; other = λ e. absurd (cc) }

uses_of_step : (v : VarsValue) (s : SettingValue) (t : ℕ) (test : Channel → Bool) → Loops v.numbering s → 0 < t → t ≤ v.steps → AllByRecursion (IsOfStep v t) (map (λ c. use_item c t) (numbers_where test s))
uses_of_step v s t test loops h0 ht =
    all_map (λ c. c < v.numbering.channels) (IsOfStep v t) (λ c. use_item c t) (numbers_where test s) (λ c hc. use_of_step v c t hc h0 ht) (numbers_in v.numbering s test loops)

uses_differ : (s : SettingValue) (t : ℕ) (test : Channel → Bool) → Differ (map (λ c. use_item c t) (numbers_where test s))
uses_differ s t test = differ_map (λ c. use_item c t) (numbers_where test s) (λ x y e. ap first_number e) (numbers_once s test)

swap_of_step : (v : VarsValue) (p t : ℕ) (pair : Cell) → IsPair v.numbering pair → p < v.numbering.zones → 0 < t → t ≤ v.steps → IsOfStep v t (swap_item pair.row pair.col p t)
swap_of_step v p t pair is hp h0 ht = record { encoded = has_swap v pair.row pair.col p t is.there hp h0 ht; time = refl; other = λ e. absurd (cc) }

act_of_step : (v : VarsValue) (g p t : ℕ) → IsSome (rank v.numbering.acts g p) → 0 < t → t ≤ v.steps → IsOfStep v t (act_item g p t)
act_of_step v g p t act h0 ht = record { encoded = has_act v g p t act h0 ht; time = refl; other = λ e. absurd (cc) }

-- the operations of a zone are able there
able_here : (v : VarsValue) (s : SettingValue) (p : ℕ) → Loops v.numbering s → p < length s.trap.zones → AllByRecursion (λ g. IsSome (rank v.numbering.acts g p)) (able_ops s p)
able_here v s p loops hp =
    all_weaker (λ g. HasZones v.numbering s g × (is_able_for s p g ≡ true)) (λ g. IsSome (rank v.numbering.acts g p)) (able_ops s p)
    (λ g h. let each = of_passing (IsAct v.numbering g) (λ z. is_able_for s z g) (zones_of s) h.0.zones in
    (at_number (λ z. is_able_for s z g ≡ true → IsAct v.numbering g z) 0 (length s.trap.zones) p (omega arith) (omega arith) each h.1).act)
    (all_filter (HasZones v.numbering s) (is_able_for s p) (performed s.circuit) loops.ops)

cells_same : (a b : Cell) → a.row ≡ b.row → a.col ≡ b.col → a ≡ b
cells_same a b e f = let P : ℕ → ℕ → Type 0 = λ r c. a ≡ cell r c in subst (λ r. P r b.col) e (subst (λ c. P a.row c) f refl)

abbrev row : Cell → ℕ
row pair = pair.row

pairs_differ : (n : ℕ) → Differ (pairs_of n)
pairs_differ n =
    differ_flat_map row (λ i. map (cell i) (between (i + 1) n)) (range_with_len 0 n)
    (λ i. all_map (λ k. Unit {0}) (λ pair. row pair ≡ i) (cell i) (between (i + 1) n) (λ k u. refl) (all_always (λ k. Unit {0}) (between (i + 1) n) (λ k. tt)))
    (λ i. differ_map (cell i) (between (i + 1) n) (λ x y e. ap (λ (pair : Cell). pair.col) e) (differ_range (i + 1) (n - (i + 1))))
    (differ_range 0 n)

swaps_differ : (s : SettingValue) (p t : ℕ) → Differ (map (λ (pair : Cell). swap_item pair.row pair.col p t) (pairs_in s))
swaps_differ s p t =
    differ_map (λ (pair : Cell). swap_item pair.row pair.col p t) (pairs_in s) (λ x y e. cells_same x y (ap first_number e) (ap second_number e)) (pairs_differ (ion_count s))

acts_differ : (s : SettingValue) (p t : ℕ) → Differ (map (λ g. act_item g p t) (able_ops s p))
acts_differ s p t =
    differ_map (λ g. act_item g p t) (able_ops s p) (λ x y e. ap first_number e)
    (differ_filter (is_able_for s p) (performed s.circuit) (differ_filter (is_performed s.circuit) (range_with_len 0 (length s.circuit.ops)) (differ_range 0 (length s.circuit.ops))))

-- uses, swaps and operations are of three kinds
abbrev kind : Item → ℕ
kind (Use c t) = 0
kind (Swap i j z t) = 1
kind (Act g z t) = 2
kind (At i p t) = 3
kind (Ord i j t) = 3
kind (Leave i c t) = 3
kind (Done g t) = 3
kind (Goal t) = 3

kinds_differ : {X Y : Type 0} (f : X → Item) (g : Y → Item) (xs : List X) (ys : List Y) (a b : ℕ) → ((x : X) → kind (f x) ≡ a) → ((y : Y) → kind (g y) ≡ b) → b ≢ a
    → AllByRecursion (λ x. AllByRecursion (λ y. y ≢ x) (map g ys)) (map f xs)
kinds_differ {X} {Y} f g xs ys a b hf hg apart =
    all_map (λ x. Unit {0}) (λ x. AllByRecursion (λ y. y ≢ x) (map g ys)) f xs
    (λ x u. all_map (λ y. Unit {0}) (λ y. y ≢ f x) g ys (λ y w e. apart (sym (hg y) ∙ ap kind e ∙ hf x)) (all_always (λ y. Unit {0}) ys (λ y. tt)))
    (all_always (λ x. Unit {0}) xs (λ x. tt))

activities_of_step : (v : VarsValue) (s : SettingValue) (t p : ℕ) → Loops v.numbering s → length s.trap.zones ≡ v.numbering.zones → 0 < t → t ≤ v.steps → p < length s.trap.zones
    → AllByRecursion (IsOfStep v t) (activities_in_zone s t p)
activities_of_step v s t p loops same h0 ht hp =
    all_append (IsOfStep v t) (map (λ (pair : Cell). swap_item pair.row pair.col p t) (pairs_in s)) (map (λ g. act_item g p t) (able_ops s p))
    (all_map (IsPair v.numbering) (IsOfStep v t) (λ (pair : Cell). swap_item pair.row pair.col p t) (pairs_in s) (λ pair is. swap_of_step v p t pair is (omega (arith, same)) h0 ht) loops.pairs)
    (all_map (λ g. IsSome (rank v.numbering.acts g p)) (IsOfStep v t) (λ g. act_item g p t) (able_ops s p) (λ g act. act_of_step v g p t act h0 ht) (able_here v s p loops hp))

zone_differ : (s : SettingValue) (t p : ℕ) → Differ (activities_in_zone s t p)
zone_differ s t p =
    differ_append (map (λ (pair : Cell). swap_item pair.row pair.col p t) (pairs_in s)) (map (λ g. act_item g p t) (able_ops s p)) (swaps_differ s p t) (acts_differ s p t)
    (kinds_differ (λ (pair : Cell). swap_item pair.row pair.col p t) (λ g. act_item g p t) (pairs_in s) (able_ops s p) 1 2 (λ pair. refl) (λ g. refl) (λ e. absurd (omega (arith, e))))

uses_apart : (s : SettingValue) (t p : ℕ) → AllByRecursion (λ x. AllByRecursion (λ y. y ≢ x) (activities_in_zone s t p)) (map (λ c. use_item c t) (numbers_where (touches p) s))
uses_apart s t p =
    let uses = map (λ c. use_item c t) (numbers_where (touches p) s) in
    let swaps = map (λ (pair : Cell). swap_item pair.row pair.col p t) (pairs_in s) in
    let acts = map (λ g. act_item g p t) (able_ops s p) in
    all_weaker (λ x. AllByRecursion (λ y. y ≢ x) swaps × AllByRecursion (λ y. y ≢ x) acts) (λ x. AllByRecursion (λ y. y ≢ x) (swaps ++ acts)) uses
    (λ x h. all_append (λ y. y ≢ x) swaps acts h.0 h.1)
    (all_both (λ x. AllByRecursion (λ y. y ≢ x) swaps) (λ x. AllByRecursion (λ y. y ≢ x) acts) uses
    (kinds_differ (λ c. use_item c t) (λ (pair : Cell). swap_item pair.row pair.col p t) (numbers_where (touches p) s) (pairs_in s) 0 1 (λ c. refl) (λ pair. refl) (λ e. absurd (omega (arith, e))))
    (kinds_differ (λ c. use_item c t) (λ g. act_item g p t) (numbers_where (touches p) s) (able_ops s p) 0 2 (λ c. refl) (λ g. refl) (λ e. absurd (omega (arith, e)))))

-- ---- how long the lists are

length-range : (n : ℕ) → length (range_with_len 0 n) ≡ n
length-range n = sym (length-map (range_with_len 0 n) (λ k. k)) ∙ length-map-range_with_len (λ k. k) 0 n

cond_few : {X : Type 0} (b : Bool) (x : X) (xs : List X) (n : ℕ) → length xs ≤ n → length (cond b (x ∷ xs) xs) ≤ suc n
cond_few true x xs n h = omega arith
cond_few false x xs n h = omega arith

filter_few : {X : Type 0} (p : X → Bool) (xs : List X) → length (filter p xs) ≤ length xs
filter_few p [] = omega arith
filter_few p (x ∷ xs) = cond_few (p x) x (filter p xs) (length xs) (filter_few p xs)

flat_few : (k : ℕ) (f : ℕ → List Cell) (xs : List ℕ) → ((x : ℕ) → length (f x) ≤ k) → length (flat_map f xs) ≤ length xs * k
flat_few k f [] h = omega arith
flat_few k f (x ∷ xs) h = omega (arith, length-append (f x) (flat_map f xs), h x, flat_few k f xs h)

pairs_few : (n : ℕ) → n ≤ 16 → length (pairs_of n) ≤ 256
pairs_few n h =
    let long = flat_few n (λ i. map (cell i) (between (i + 1) n)) (range_with_len 0 n) (λ i. omega (arith, length-map-range_with_len (cell i) (i + 1) (n - (i + 1)))) in
    let most : length (pairs_of n) ≤ n * n = subst (λ k. length (pairs_of n) ≤ k * n) (length-range n) long in
    let square : n * n ≤ 16 * 16 = omega (arith, mul-le-mul_left n h, mul-le-mul_right 16 h) in
    omega (arith, most, square)

ops_few : (s : SettingValue) (p : ℕ) → length (able_ops s p) ≤ length s.circuit.ops
ops_few s p = omega (arith, filter_few (is_able_for s p) (performed s.circuit), filter_few (is_performed s.circuit) (range_with_len 0 (length s.circuit.ops)), length-range (length s.circuit.ops))

activities_few : (s : SettingValue) (t p steps : ℕ) → IsTrap s.trap → IsSmall s steps → length (activities_at s t p) ≤ 32768
activities_few s t p steps trap small =
    let touching = filter_few (touches p) (channels_of s.trap) in
    let channels = few_channels s.trap trap in
    elim (cases_lt p (length s.trap.zones)) [
      | inl zone ↦ omega (arith, zone_counted s t p zone, touching, channels, pairs_few (ion_count s) small.ions, ops_few s p, small.ops)
      | inr slot ↦ omega (arith, slot_counted s t p slot, touching, channels)
    ]

-- ---- at most one thing happens

activity_bound : (v : VarsValue) (s : SettingValue) (t first p : ℕ) → Loops v.numbering s → IsTrap s.trap → IsSmall s v.steps → length s.trap.zones ≡ v.numbering.zones → 0 < t → t ≤ v.steps → Below v t first
    → IsEncodedBound v first (bound 1 (activities_at s t p))
activity_bound v s t first p loops trap small same h0 ht below =
    let uses = map (λ c. use_item c t) (numbers_where (touches p) s) in
    step_bound v t first 1 (activities_at s t p) (omega arith) (activities_few s t p v.steps trap small) below
    (elim (cases_lt p (length s.trap.zones)) [
      | inl zone ↦ rw (lt-ltb p (length s.trap.zones) zone) (all_append (IsOfStep v t) uses (activities_in_zone s t p) (uses_of_step v s t (touches p) loops h0 ht) (activities_of_step v s t p loops same h0 ht zone))
      | inr slot ↦ rw (le-ltb p (length s.trap.zones) slot) (all_append (IsOfStep v t) uses [] (uses_of_step v s t (touches p) loops h0 ht) tt)
    ])
    (elim (cases_lt p (length s.trap.zones)) [
      | inl zone ↦ rw (lt-ltb p (length s.trap.zones) zone) (differ_append uses (activities_in_zone s t p) (uses_differ s t (touches p)) (zone_differ s t p) (uses_apart s t p))
      | inr slot ↦ rw (le-ltb p (length s.trap.zones) slot) (differ_append uses [] (uses_differ s t (touches p)) tt (all_always (λ x. Unit {0}) uses (λ x. tt)))
    ])

crossing_bound : (v : VarsValue) (s : SettingValue) (t first junction : ℕ) → Loops v.numbering s → IsTrap s.trap → 0 < t → t ≤ v.steps → Below v t first
    → IsEncodedBound v first (bound 1 (map (λ c. use_item c t) (numbers_where (is_through junction) s)))
crossing_bound v s t first junction loops trap h0 ht below =
    step_bound v t first 1 (map (λ c. use_item c t) (numbers_where (is_through junction) s)) (omega arith)
    (omega (arith, crossing_counted s t junction, filter_few (is_through junction) (channels_of s.trap), few_channels s.trap trap)) below
    (uses_of_step v s t (is_through junction) loops h0 ht) (uses_differ s t (is_through junction))

pub activities_bounded : (v : VarsValue) (s : SettingValue) (t first : ℕ) → Loops v.numbering s → IsTrap s.trap → IsSmall s v.steps → length s.trap.zones ≡ v.numbering.zones → 0 < t → t ≤ v.steps → Below v t first
    → AllByRecursion (IsEncodedBound v first) (activity_bounds s t)
activities_bounded v s t first loops trap small same h0 ht below =
    all_append (IsEncodedBound v first) (one_activity_each s t) (one_crossing_each s t)
    (all_map (λ p. p < v.numbering.places) (IsEncodedBound v first) (λ p. bound 1 (activities_at s t p)) (places_of s) (λ p hp. activity_bound v s t first p loops trap small same h0 ht below) loops.places)
    (all_map (λ k. k < length s.trap.junctions) (IsEncodedBound v first) (λ junction. bound 1 (map (λ c. use_item c t) (numbers_where (is_through junction) s))) (junctions_of s)
    (λ junction k. crossing_bound v s t first junction loops trap h0 ht below) (all_range (length s.trap.junctions)))
