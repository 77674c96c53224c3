-- All lists of a step are ready to be added.
use Rattle.std.proofs.Common.{◌≡◌, ℕ, suc, ◌+◌, ◌^◌, ◌≤◌, List, [], ◌∷◌, ◌++◌, map, length, refl, ap, sym, ◌∙◌, arith, inl, inr}
use Rattle.std.proofs.lemmas.Bool.{cases_lt}
use Rattle.trap_model.specs.Channels.{is_through, channels_of, AreWithin}
use Rattle.trap_parts.specs.Build.{IsTrap}
use Rattle.step_rules.specs.Setting.{SettingValue}
use Rattle.step_vars.specs.declared.encoding.Encoding.{Encoding}
use Rattle.step_vars.specs.declared.item.Item.{Item}
use Rattle.step_vars.specs.declared.item.Bound.{Bound}
use Rattle.step_vars.specs.Items.{use_item}
use Rattle.step_vars.specs.Numbering.{Numbering, sizes_at, first_helper}
use Rattle.step_vars.specs.Limits.{fresh_for}
use Rattle.step_vars.specs.Lists.{ions_of, places_of, junctions_of, performed, numbers_where}
use Rattle.step_vars.specs.Families.{bound, one_place, few_ions, one_places, few_ions_each, activities_at, one_activity_each, one_crossing_each, goal_needs_all}
use Rattle.step_vars.specs.Encoding.{VarsValue, vars_of, numbering_of, helper_count, place_bounds, activity_bounds, step_helpers, start_clauses, passing_clauses, order_clauses, operation_clauses}
use Rattle.step_vars.proofs.Inverse.{number_before_helpers}
use Rattle.step_vars.proofs.HelperCounts.{helper_count-append}
use Rattle.step_vars.proofs.Limited.{places_counted, ions_counted, zone_counted, slot_counted, crossing_counted}
use Rattle.clause_families.specs.Encoded.{IsEncodedClause, AreEncodedClauses, AreEncodedBounds}
use Rattle.step_clauses.specs.Emission.{AreVarsOf, IsStep, second_first}
use Rattle.clause_families.proofs.Every.{all_append}
use Rattle.step_clauses.proofs.Within.{has_lists, are_ops, loops_of}
use Rattle.step_clauses.proofs.ByChannel.{from_0}
use Rattle.step_clauses.proofs.ByPlace.{goal_clauses}
use Rattle.step_clauses.proofs.Encodes.{passing_encoded, orders_encoded, operations_encoded, start_encoded}
use Rattle.step_clauses.proofs.Bounded.{places_bounded, activities_bounded}

-- ---- each step has as many helpers as the first

same_helpers : (encoding : Encoding) (f g : ℕ → Bound) (xs : List ℕ) → ((x : ℕ) → length (f x).items ≡ length (g x).items) → ((x : ℕ) → (f x).limit ≡ (g x).limit)
    → helper_count encoding (map f xs) ≡ helper_count encoding (map g xs)
same_helpers encoding f g [] items limits = refl
same_helpers encoding f g (x ∷ xs) items limits =
    ap (λ n. fresh_for encoding n (f x).limit + helper_count encoding (map f xs)) (items x)
    ∙ ap (λ k. fresh_for encoding (length (g x).items) k + helper_count encoding (map f xs)) (limits x)
    ∙ ap (λ n. fresh_for encoding (length (g x).items) (g x).limit + n) (same_helpers encoding f g xs items limits)

activities_same : (s : SettingValue) (t u p : ℕ) → length (activities_at s t p) ≡ length (activities_at s u p)
activities_same s t u p = elim (cases_lt p (length s.trap.zones)) [
  | inl zone ↦ zone_counted s t p zone ∙ sym (zone_counted s u p zone)
  | inr slot ↦ slot_counted s t p slot ∙ sym (slot_counted s u p slot)
]

places_same : (encoding : Encoding) (s : SettingValue) (t : ℕ) → helper_count encoding (place_bounds s t) ≡ helper_count encoding (place_bounds s 1)
places_same encoding s t =
    let ions = same_helpers encoding (one_place s t) (one_place s 1) (ions_of s) (λ i. places_counted s t i ∙ sym (places_counted s 1 i)) (λ i. refl) in
    let places = same_helpers encoding (few_ions s t) (few_ions s 1) (places_of s) (λ p. ions_counted s t p ∙ sym (ions_counted s 1 p)) (λ p. refl) in
    omega (arith, ions, places, helper_count-append encoding (one_places s t) (few_ions_each s t), helper_count-append encoding (one_places s 1) (few_ions_each s 1))

activity_same : (encoding : Encoding) (s : SettingValue) (t : ℕ) → helper_count encoding (activity_bounds s t) ≡ helper_count encoding (activity_bounds s 1)
activity_same encoding s t =
    let places = same_helpers encoding (λ p. bound 1 (activities_at s t p)) (λ p. bound 1 (activities_at s 1 p)) (places_of s) (λ p. activities_same s t 1 p) (λ p. refl) in
    let junctions = same_helpers encoding (λ k. bound 1 (map (λ c. use_item c t) (numbers_where (is_through k) s))) (λ k. bound 1 (map (λ c. use_item c 1) (numbers_where (is_through k) s))) (junctions_of s)
    (λ k. crossing_counted s t k ∙ sym (crossing_counted s 1 k)) (λ k. refl) in
    omega (arith, places, junctions, helper_count-append encoding (one_activity_each s t) (one_crossing_each s t), helper_count-append encoding (one_activity_each s 1) (one_crossing_each s 1))

helpers_are : (v : VarsValue) (s : SettingValue) → v ≡ vars_of s v.encoding v.steps → v.numbering.helpers ≡ step_helpers s v.encoding
unfolding vars_of numbering_of
helpers_are v s e = ap (λ (w : VarsValue). w.numbering.helpers) e

helpers_fit : (n : Numbering) (r t : ℕ) → t ≡ r + 1 → (sizes_at n t).helpers ≡ n.helpers
helpers_fit n r t e = let same : t ≡ suc r = omega (arith, e) in rw same refl

-- ---- the lists of a step

pub places_ready : (v : VarsValue) (s : SettingValue) (r t : ℕ) → AreVarsOf v s → IsTrap s.trap → AreWithin s.trap (channels_of s.trap) → IsStep v r t
    → first_helper v.numbering t + (sizes_at v.numbering t).helpers ≤ 2 ^ 31 → AreEncodedBounds v (first_helper v.numbering t) (place_bounds s t)
places_ready v s r t vars trap within step room =
    let below = λ (item : Item) (var : ℕ). number_before_helpers v.numbering item var t in
    let one : 1 ≤ first_helper v.numbering t = omega arith in
    let loops = loops_of v s vars.same within in
    record {
      each = places_bounded v s t (first_helper v.numbering t) loops trap vars.small.ions vars.small.places step.last below;
      from_1 = one;
      room = omega (arith, room, helpers_fit v.numbering r t step.next, helpers_are v s vars.same, places_same v.encoding s t);
    }

pub activities_ready : (v : VarsValue) (s : SettingValue) (r t next : ℕ) → AreVarsOf v s → IsTrap s.trap → AreWithin s.trap (channels_of s.trap) → IsStep v r t
    → first_helper v.numbering t + (sizes_at v.numbering t).helpers ≤ 2 ^ 31 → next ≡ second_first v s t → AreEncodedBounds v next (activity_bounds s t)
activities_ready v s r t next vars trap within step room later =
    let below = λ (item : Item) (var : ℕ). number_before_helpers v.numbering item var t in
    let one : 1 ≤ first_helper v.numbering t = omega arith in
    let loops = loops_of v s vars.same within in
    let zones = sym (has_lists v s vars.same).zones in
    record {
      each = activities_bounded v s t next loops trap vars.small zones (from_0 v r t step) step.last (λ item var is time other. omega (arith, below item var is time other, later));
      from_1 = omega (arith, one, later);
      room = omega (arith, later, room, helpers_fit v.numbering r t step.next, helpers_are v s vars.same, places_same v.encoding s t, activity_same v.encoding s t);
    }

-- ---- the clauses of a step

pub passing_ready : (v : VarsValue) (s : SettingValue) (r t : ℕ) → AreVarsOf v s → AreWithin s.trap (channels_of s.trap) → IsStep v r t → AreEncodedClauses v (passing_clauses s r t)
passing_ready v s r t vars within step = passing_encoded v s r t (loops_of v s vars.same within) step

pub others_ready : (v : VarsValue) (s : SettingValue) (r t : ℕ) → AreVarsOf v s → AreWithin s.trap (channels_of s.trap) → IsStep v r t → AreEncodedClauses v (order_clauses s r t ++ operation_clauses s r t)
others_ready v s r t vars within step =
    let loops = loops_of v s vars.same within in
    all_append (IsEncodedClause v) (order_clauses s r t) (operation_clauses s r t) (orders_encoded v s r t (sym (has_lists v s vars.same).zones) loops step) (operations_encoded v s r t loops step)

pub start_ready : (v : VarsValue) (s : SettingValue) → AreVarsOf v s → AreWithin s.trap (channels_of s.trap) → AreEncodedClauses v (start_clauses s)
start_ready v s vars within = start_encoded v s (loops_of v s vars.same within)

pub goal_ready : (v : VarsValue) (s : SettingValue) (t : ℕ) → v ≡ vars_of s v.encoding v.steps → t ≤ v.steps → AreEncodedClauses v (goal_needs_all s t)
goal_ready v s t e ht = goal_clauses v t (performed s.circuit) ht (are_ops v.numbering s (has_lists v s e))
