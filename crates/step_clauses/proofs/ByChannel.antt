-- The clauses of channels have items of the encoding.
use Rattle.std.proofs.Common.{◌≡◌, ◌≢◌, ℕ, ◌<◌, ◌≤◌, ◌==◌, Bool, true, false, cond, not, List, [], ◌∷◌, ◌++◌, map, refl, ap, sym, arith, inl, inr, eqb}
use Rattle.std.specs.Prelude.{filter, IsSome}
use Rattle.std.specs.List.{AllByRecursion, flat_map}
use Rattle.std.proofs.lemmas.Bool.{cases_lt, lt-ltb, le-ltb, eq-eqb}
use Rattle.qc_base.specs.declared.ids.End.{End}
use Rattle.qc_base.specs.declared.ids.End.TheVariants.{A, B}
use Rattle.step_vars.specs.declared.cells.Cell.{Cell}
use Rattle.step_vars.specs.declared.channel_test.NumberedChannel.{NumberedChannel}
use Rattle.step_vars.specs.declared.item.Item.{Item}
use Rattle.step_vars.specs.declared.item.Claim.{Claim}
use Rattle.step_vars.specs.Items.{at_item, ord_item, use_item, leave_item, so, not_so, denied, nearer, nearer_to}
use Rattle.step_vars.specs.Numbering.{Numbering, rank}
use Rattle.step_vars.specs.Encoding.{VarsValue}
use Rattle.step_vars.specs.Families.{both_leave, keeps_order, turns_order}
use Rattle.clause_families.specs.declared.by_channel.IonRule.{IonRule}
use Rattle.clause_families.specs.declared.by_channel.IonRule.TheVariants.{FromSource, ToTarget, UsesChannel, FindsEmptySlot, EmptiesSlot}
use Rattle.clause_families.specs.declared.by_channel.TwoIonRule.{TwoIonRule}
use Rattle.clause_families.specs.declared.by_channel.TwoIonRule.TheVariants.{GoesAlong, MergesOutside}
use Rattle.clause_families.specs.Clauses.{by_ion, by_two_ions, by_passing_pair, passers}
use Rattle.clause_families.specs.Encoded.{Differ, IsEncoded, IsEncodedClause, AreEncodedClauses, item_of}
use Rattle.step_clauses.specs.Emission.{IsStep}
use Rattle.step_clauses.specs.Loops.{HasEnds, IsPair}
use Rattle.clause_families.proofs.Every.{all_map, all_flat_map, all_filter, differ_map}
use Rattle.clause_families.proofs.Numbered.{first_number, has_at, has_ord, has_use, has_leave, nearer_item, two_claims, three_claims, four_claims}

pub from_0 : (v : VarsValue) (r t : ℕ) → IsStep v r t → 0 < t
from_0 v r t s = omega (arith, s.next)

pub before_last : (v : VarsValue) (r t : ℕ) → IsStep v r t → r ≤ v.steps
before_last v r t s = omega (arith, s.next, s.last)

pub steps_apart : (v : VarsValue) (r t : ℕ) → IsStep v r t → r ≢ t
steps_apart v r t s e = absurd (omega (arith, s.next, e))

-- ---- a channel and an ion

by_ion_clause : (v : VarsValue) (rule : IonRule) (r t : ℕ) (c : NumberedChannel) (i : ℕ) → IsStep v r t → HasEnds v.numbering c → i < v.numbering.ions
    → IsEncodedClause v (by_ion rule r t c i)
by_ion_clause v FromSource r t c i s hc hi =
    two_claims v (not_so (leave_item i c.number t)) (so (at_item i c.channel.from.0 r))
    (has_leave v i c.number t hi hc.number (from_0 v r t s) s.last) (has_at v i c.channel.from.0 r hi hc.from (before_last v r t s)) (λ e. absurd (cc))
by_ion_clause v ToTarget r t c i s hc hi =
    two_claims v (not_so (leave_item i c.number t)) (so (at_item i c.channel.to.0 t))
    (has_leave v i c.number t hi hc.number (from_0 v r t s) s.last) (has_at v i c.channel.to.0 t hi hc.to s.last) (λ e. absurd (cc))
by_ion_clause v UsesChannel r t c i s hc hi =
    two_claims v (not_so (leave_item i c.number t)) (so (use_item c.number t))
    (has_leave v i c.number t hi hc.number (from_0 v r t s) s.last) (has_use v c.number t hc.number (from_0 v r t s) s.last) (λ e. absurd (cc))
by_ion_clause v FindsEmptySlot r t c i s hc hi =
    two_claims v (not_so (use_item c.number t)) (not_so (at_item i c.channel.to.0 r))
    (has_use v c.number t hc.number (from_0 v r t s) s.last) (has_at v i c.channel.to.0 r hi hc.to (before_last v r t s)) (λ e. absurd (cc))
by_ion_clause v EmptiesSlot r t c i s hc hi =
    three_claims v (not_so (use_item c.number t)) (not_so (at_item i c.channel.from.0 r)) (so (leave_item i c.number t))
    (has_use v c.number t hc.number (from_0 v r t s) s.last) (has_at v i c.channel.from.0 r hi hc.from (before_last v r t s))
    (has_leave v i c.number t hi hc.number (from_0 v r t s) s.last) (λ e. absurd (cc)) (λ e. absurd (cc)) (λ e. absurd (cc))

pub by_ion_clauses : (v : VarsValue) (rule : IonRule) (r t : ℕ) (ions : List ℕ) (channels : List NumberedChannel) → IsStep v r t
    → AllByRecursion (λ i. i < v.numbering.ions) ions → AllByRecursion (HasEnds v.numbering) channels
    → AreEncodedClauses v (flat_map (λ c. map (by_ion rule r t c) ions) channels)
by_ion_clauses v rule r t ions channels s hi hc =
    all_flat_map (HasEnds v.numbering) (IsEncodedClause v) (λ c. map (by_ion rule r t c) ions) channels
    (λ c ends. all_map (λ i. i < v.numbering.ions) (IsEncodedClause v) (by_ion rule r t c) ions (λ i below. by_ion_clause v rule r t c i s ends below) hi) hc

-- ---- a channel and two ions

pub other_of : (i j : ℕ) → not (j == i) ≡ true → j ≢ i
other_of i j h e = let same : eqb j i ≡ true = eq-eqb j i e in absurd (cc)

-- what an order's item is not
pub order_not : (Q : Item → Type 0) (i j t : ℕ) → ((a b : ℕ) → Q (ord_item a b t)) → Q (nearer i j t).item
order_not Q i j t h = elim (cases_lt i j) [
  | inl below ↦ rw (lt-ltb i j below) (h i j)
  | inr past ↦ rw (le-ltb i j past) (h j i)
]

-- the order as seen from an end
order_to : (Q : Claim → Type 0) (end : End) (i j t : ℕ) → Q (nearer i j t) → Q (nearer j i t) → Q (nearer_to end i j t)
order_to Q A i j t a b = a
order_to Q B i j t a b = b

ends_item : (v : VarsValue) (end : End) (i j t : ℕ) → ((a b : ℕ) → a < b → b < v.numbering.ions → IsSome (rank v.numbering.pairs a b)) → i ≢ j → i < v.numbering.ions → j < v.numbering.ions → t ≤ v.steps
    → IsEncoded v (nearer_to end i j t).item
ends_item v end i j t every apart hi hj ht =
    order_to (λ claim. IsEncoded v claim.item) end i j t (nearer_item v i j t every apart hi hj ht) (nearer_item v j i t every (λ e. apart (sym e)) hj hi ht)

not_order : (end : End) (i j t : ℕ) (item : Item) → ((a b : ℕ) → ord_item a b t ≢ item) → (nearer_to end i j t).item ≢ item
not_order end i j t item h =
    order_to (λ claim. claim.item ≢ item) end i j t (order_not (λ it. it ≢ item) i j t h) (order_not (λ it. it ≢ item) j i t h)

order_is_not : (end : End) (i j t : ℕ) (item : Item) → ((a b : ℕ) → item ≢ ord_item a b t) → item ≢ (nearer_to end i j t).item
order_is_not end i j t item h =
    order_to (λ claim. item ≢ claim.item) end i j t (order_not (λ it. item ≢ it) i j t h) (order_not (λ it. item ≢ it) j i t h)

by_two_clause : (v : VarsValue) (rule : TwoIonRule) (r t : ℕ) (c : NumberedChannel) (i j : ℕ) → IsStep v r t
    → ((a b : ℕ) → a < b → b < v.numbering.ions → IsSome (rank v.numbering.pairs a b))
    → HasEnds v.numbering c → i < v.numbering.ions → j < v.numbering.ions → j ≢ i
    → IsEncodedClause v (by_two_ions rule r t c i j)
by_two_clause v GoesAlong r t c i j s every hc hi hj apart =
    four_claims v (not_so (leave_item i c.number t)) (not_so (at_item j c.channel.from.0 r)) (denied (nearer_to c.channel.from_end j i r)) (so (leave_item j c.number t))
    (has_leave v i c.number t hi hc.number (from_0 v r t s) s.last) (has_at v j c.channel.from.0 r hj hc.from (before_last v r t s))
    (ends_item v c.channel.from_end j i r every apart hj hi (before_last v r t s)) (has_leave v j c.number t hj hc.number (from_0 v r t s) s.last)
    (λ e. absurd (cc)) (not_order c.channel.from_end j i r (leave_item i c.number t) (λ a b e. absurd (cc))) (λ e. apart (ap first_number e))
    (not_order c.channel.from_end j i r (at_item j c.channel.from.0 r) (λ a b e. absurd (cc))) (λ e. absurd (cc))
    (order_is_not c.channel.from_end j i r (leave_item j c.number t) (λ a b e. absurd (cc)))
by_two_clause v MergesOutside r t c i j s every hc hi hj apart =
    three_claims v (not_so (leave_item i c.number t)) (not_so (at_item j c.channel.to.0 r)) (nearer_to c.channel.to_end i j t)
    (has_leave v i c.number t hi hc.number (from_0 v r t s) s.last) (has_at v j c.channel.to.0 r hj hc.to (before_last v r t s))
    (ends_item v c.channel.to_end i j t every (λ e. apart (sym e)) hi hj s.last)
    (λ e. absurd (cc)) (not_order c.channel.to_end i j t (leave_item i c.number t) (λ a b e. absurd (cc)))
    (not_order c.channel.to_end i j t (at_item j c.channel.to.0 r) (λ a b e. absurd (cc)))

pub by_two_clauses : (v : VarsValue) (rule : TwoIonRule) (r t : ℕ) (ions : List ℕ) (channels : List NumberedChannel) → IsStep v r t
    → ((a b : ℕ) → a < b → b < v.numbering.ions → IsSome (rank v.numbering.pairs a b))
    → AllByRecursion (λ i. i < v.numbering.ions) ions → AllByRecursion (HasEnds v.numbering) channels
    → AreEncodedClauses v (flat_map (λ c. flat_map (λ i. map (by_two_ions rule r t c i) (filter (λ j. not (j == i)) ions)) ions) channels)
by_two_clauses v rule r t ions channels s every hi hc =
    all_flat_map (HasEnds v.numbering) (IsEncodedClause v) (λ c. flat_map (λ i. map (by_two_ions rule r t c i) (filter (λ j. not (j == i)) ions)) ions) channels
    (λ c ends. all_flat_map (λ i. i < v.numbering.ions) (IsEncodedClause v) (λ i. map (by_two_ions rule r t c i) (filter (λ j. not (j == i)) ions)) ions
    (λ i below. all_map (λ j. (j < v.numbering.ions) × (not (j == i) ≡ true)) (IsEncodedClause v) (by_two_ions rule r t c i) (filter (λ j. not (j == i)) ions)
    (λ j h. by_two_clause v rule r t c i j s every ends below h.0 (other_of i j h.1))
    (all_filter (λ j. j < v.numbering.ions) (λ j. not (j == i)) ions hi)) hi) hc

-- ---- a channel and all ions

leaves_differ : (c t : ℕ) (ions : List ℕ) → Differ ions → Differ (map (λ i. leave_item i c t) ions)
leaves_differ c t ions d = differ_map (λ i. leave_item i c t) ions (λ x y e. ap first_number e) d

pub map_items : {X : Type 0} (f : X → Item) (xs : List X) → map item_of (map (λ x. so (f x)) xs) ≡ map f xs
map_items f [] = refl
map_items f (x ∷ xs) = ap (λ rest. f x ∷ rest) (map_items f xs)

passers_clause : (v : VarsValue) (r t : ℕ) (ions : List ℕ) (c : NumberedChannel) → IsStep v r t → AllByRecursion (λ i. i < v.numbering.ions) ions → Differ ions → HasEnds v.numbering c
    → IsEncodedClause v (passers t ions c)
passers_clause v r t ions c s hi d hc =
    let same = map_items (λ i. leave_item i c.number t) ions in
    record {
      items = (
        has_use v c.number t hc.number (from_0 v r t s) s.last,
        rw same (all_map (λ i. i < v.numbering.ions) (IsEncoded v) (λ i. leave_item i c.number t) ions (λ i below. has_leave v i c.number t below hc.number (from_0 v r t s) s.last) hi),
      );
      differ = (rw same (all_map (λ i. i < v.numbering.ions) (λ item. item ≢ use_item c.number t) (λ i. leave_item i c.number t) ions (λ i below e. absurd (cc)) hi), rw same (leaves_differ c.number t ions d));
    }

pub passers_clauses : (v : VarsValue) (r t : ℕ) (ions : List ℕ) (channels : List NumberedChannel) → IsStep v r t → AllByRecursion (λ i. i < v.numbering.ions) ions → Differ ions
    → AllByRecursion (HasEnds v.numbering) channels → AreEncodedClauses v (map (passers t ions) channels)
passers_clauses v r t ions channels s hi d hc =
    all_map (HasEnds v.numbering) (IsEncodedClause v) (passers t ions) channels (λ c ends. passers_clause v r t ions c s hi d ends) hc

-- ---- a channel and a pair

pub pairs_apart : (n : Numbering) (pair : Cell) → IsPair n pair → pair.col ≢ pair.row
pairs_apart n pair p e = absurd (omega (arith, p.order, e))

pub first_below : (n : Numbering) (pair : Cell) → IsPair n pair → pair.row < n.ions
first_below n pair p = omega (arith, p.order, p.last)

both_leave_orders : (v : VarsValue) (r t : ℕ) (c : NumberedChannel) (pair : Cell) (a b : Bool) → IsStep v r t → HasEnds v.numbering c → IsPair v.numbering pair
    → IsEncodedClause v (both_leave t c pair ++ record { item = ord_item pair.row pair.col r; positive = a } ∷ record { item = ord_item pair.row pair.col t; positive = b } ∷ [])
both_leave_orders v r t c pair a b s hc p =
    four_claims v (not_so (leave_item pair.row c.number t)) (not_so (leave_item pair.col c.number t)) (record { item = ord_item pair.row pair.col r; positive = a }) (record { item = ord_item pair.row pair.col t; positive = b })
    (has_leave v pair.row c.number t (first_below v.numbering pair p) hc.number (from_0 v r t s) s.last) (has_leave v pair.col c.number t p.last hc.number (from_0 v r t s) s.last)
    (has_ord v pair.row pair.col r p.there (before_last v r t s)) (has_ord v pair.row pair.col t p.there s.last)
    (λ e. pairs_apart v.numbering pair p (ap first_number e)) (λ e. absurd (cc)) (λ e. absurd (cc)) (λ e. absurd (cc)) (λ e. absurd (cc))
    (λ e. let same : t ≡ r = cc in absurd (steps_apart v r t s (sym same)))

either_order : (P : List Claim → Type 0) (same : Bool) (turned kept : List (List Claim)) → AllByRecursion P turned → AllByRecursion P kept → AllByRecursion P (cond same turned kept)
either_order P true turned kept a b = a
either_order P false turned kept a b = b

by_passing_clause : (v : VarsValue) (r t : ℕ) (c : NumberedChannel) (pair : Cell) → IsStep v r t → HasEnds v.numbering c → IsPair v.numbering pair
    → AreEncodedClauses v (by_passing_pair r t c pair)
by_passing_clause v r t c pair s hc p =
    either_order (IsEncodedClause v) _ (turns_order (both_leave t c pair) r t pair) (keeps_order (both_leave t c pair) r t pair)
    (both_leave_orders v r t c pair false false s hc p, (both_leave_orders v r t c pair true true s hc p, tt))
    (both_leave_orders v r t c pair false true s hc p, (both_leave_orders v r t c pair true false s hc p, tt))

pub by_passing_clauses : (v : VarsValue) (r t : ℕ) (pairs : List Cell) (channels : List NumberedChannel) → IsStep v r t → AllByRecursion (IsPair v.numbering) pairs
    → AllByRecursion (HasEnds v.numbering) channels → AreEncodedClauses v (flat_map (λ c. flat_map (by_passing_pair r t c) pairs) channels)
by_passing_clauses v r t pairs channels s hp hc =
    all_flat_map (HasEnds v.numbering) (IsEncodedClause v) (λ c. flat_map (by_passing_pair r t c) pairs) channels
    (λ c ends. all_flat_map (IsPair v.numbering) (IsEncodedClause v) (by_passing_pair r t c) pairs (λ pair is. by_passing_clause v r t c pair s ends is) hp) hc
