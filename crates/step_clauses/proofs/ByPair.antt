-- The clauses of places and pairs of ions have items of the encoding.
use Rattle.std.proofs.Common.{◌≡◌, ◌≢◌, ℕ, ◌<◌, ◌==◌, ◌&&◌, Bool, true, false, cond, not, List, [], ◌∷◌, ◌++◌, refl, ap, sym, arith, inl, inr}
use Rattle.std.specs.Prelude.{filter, IsSome, nat_lt}
use Rattle.std.specs.List.{AllByRecursion, flat_map}
use Rattle.std.proofs.lemmas.Bool.{cases_lt, lt-ltb, le-ltb, ltb-true}
use Rattle.step_vars.specs.declared.cells.Cell.{Cell}
use Rattle.step_vars.specs.declared.item.Item.{Item}
use Rattle.step_vars.specs.Items.{at_item, ord_item, swap_item, so, not_so, denied, nearer}
use Rattle.step_vars.specs.Numbering.{rank}
use Rattle.step_vars.specs.Encoding.{VarsValue}
use Rattle.step_vars.specs.Families.{swap_in_zone, none_between, swap_turns}
use Rattle.clause_families.specs.declared.by_pair.PairRule.{PairRule}
use Rattle.clause_families.specs.declared.by_pair.PairRule.TheVariants.{InZone, NoneBetween, Turns, Stays}
use Rattle.clause_families.specs.Clauses.{by_pair}
use Rattle.clause_families.specs.Encoded.{Differ, IsEncoded, IsEncodedClause, AreEncodedClauses}
use Rattle.step_clauses.specs.Emission.{IsStep}
use Rattle.step_clauses.specs.Loops.{IsPair, IsZone}
use Rattle.clause_families.proofs.Every.{all_flat_map, all_filter, all_weaker}
use Rattle.clause_families.proofs.Numbered.{first_number, second_number, has_at, has_ord, has_swap, nearer_item, two_claims, three_claims, four_claims}
use Rattle.step_clauses.proofs.ByChannel.{from_0, before_last, steps_apart, pairs_apart, first_below, other_of, order_not}

-- ---- swaps

in_zone : (v : VarsValue) (r t z : ℕ) (pair : Cell) → IsStep v r t → IsZone v.numbering z → IsPair v.numbering pair → AreEncodedClauses v (swap_in_zone r t z pair)
in_zone v r t z pair s hz p =
    let swapped = has_swap v pair.row pair.col z t p.there hz.zone (from_0 v r t s) s.last in (
      two_claims v (not_so (swap_item pair.row pair.col z t)) (so (at_item pair.row z r)) swapped (has_at v pair.row z r (first_below v.numbering pair p) hz.place (before_last v r t s)) (λ e. absurd (cc)),
      (two_claims v (not_so (swap_item pair.row pair.col z t)) (so (at_item pair.col z r)) swapped (has_at v pair.col z r p.last hz.place (before_last v r t s)) (λ e. absurd (cc)), tt),
    )

turning : (v : VarsValue) (r t z : ℕ) (pair : Cell) → IsStep v r t → IsZone v.numbering z → IsPair v.numbering pair → AreEncodedClauses v (swap_turns r t z pair)
turning v r t z pair s hz p =
    let swapped = has_swap v pair.row pair.col z t p.there hz.zone (from_0 v r t s) s.last in
    let before = has_ord v pair.row pair.col r p.there (before_last v r t s) in
    let after = has_ord v pair.row pair.col t p.there s.last in (
      three_claims v (not_so (swap_item pair.row pair.col z t)) (not_so (ord_item pair.row pair.col r)) (not_so (ord_item pair.row pair.col t)) swapped before after
          (λ e. absurd (cc)) (λ e. absurd (cc)) (λ e. let same : t ≡ r = cc in absurd (steps_apart v r t s (sym same))),
      (
        three_claims v (not_so (swap_item pair.row pair.col z t)) (so (ord_item pair.row pair.col r)) (so (ord_item pair.row pair.col t)) swapped before after
            (λ e. absurd (cc)) (λ e. absurd (cc)) (λ e. let same : t ≡ r = cc in absurd (steps_apart v r t s (sym same))),
        tt,
      ),
    )

-- the orders of a third ion with two others differ
orders_apart : (i k j r : ℕ) → i ≢ j → k ≢ i → k ≢ j → (nearer k j r).item ≢ (nearer i k r).item
orders_apart i k j r apart ki kj = elim (cases_lt k j) [
  | inl h ↦ rw (lt-ltb k j h) (elim (cases_lt i k) [
    | inl g ↦ rw (lt-ltb i k g) (λ e. ki (ap first_number e))
    | inr g ↦ rw (le-ltb i k g) (λ e. apart (sym (ap second_number e)))
  ])
  | inr h ↦ rw (le-ltb k j h) (elim (cases_lt i k) [
    | inl g ↦ rw (lt-ltb i k g) (λ e. apart (sym (ap first_number e)))
    | inr g ↦ rw (le-ltb i k g) (λ e. kj (sym (ap first_number e)))
  ])
]

between_claims : (v : VarsValue) (r t z i j k : ℕ) (swap : Item) → IsStep v r t → IsZone v.numbering z
    → ((a b : ℕ) → a < b → b < v.numbering.ions → IsSome (rank v.numbering.pairs a b))
    → IsEncoded v swap → ((a b : ℕ) → ord_item a b r ≢ swap) → at_item k z r ≢ swap
    → i < v.numbering.ions → j < v.numbering.ions → k < v.numbering.ions → i ≢ j → k ≢ i → k ≢ j
    → IsEncodedClause v (not_so swap ∷ not_so (at_item k z r) ∷ denied (nearer i k r) ∷ denied (nearer k j r) ∷ [])
between_claims v r t z i j k swap s hz every hs order at hi hj hk apart ki kj =
    four_claims v (not_so swap) (not_so (at_item k z r)) (denied (nearer i k r)) (denied (nearer k j r))
    hs (has_at v k z r hk hz.place (before_last v r t s)) (nearer_item v i k r every (λ e. ki (sym e)) hi hk (before_last v r t s)) (nearer_item v k j r every kj hk hj (before_last v r t s))
    at (order_not (λ it. it ≢ swap) i k r order) (order_not (λ it. it ≢ swap) k j r order)
    (order_not (λ it. it ≢ at_item k z r) i k r (λ a b e. absurd (cc))) (order_not (λ it. it ≢ at_item k z r) k j r (λ a b e. absurd (cc)))
    (orders_apart i k j r apart ki kj)

-- both tests hold
both : (a b : Bool) → (a && b) ≡ true → (a ≡ true) × (b ≡ true)
both true b e = (refl, e)
both false b e = absurd (cc)

not_between : (v : VarsValue) (r t z : ℕ) (pair : Cell) (k : ℕ) → IsStep v r t → IsZone v.numbering z
    → ((a b : ℕ) → a < b → b < v.numbering.ions → IsSome (rank v.numbering.pairs a b))
    → IsPair v.numbering pair → k < v.numbering.ions → k ≢ pair.row → k ≢ pair.col → AreEncodedClauses v (none_between r t z pair k)
not_between v r t z pair k s hz every p hk row col =
    let swapped = has_swap v pair.row pair.col z t p.there hz.zone (from_0 v r t s) s.last in
    let first = first_below v.numbering pair p in (
      between_claims v r t z pair.row pair.col k (swap_item pair.row pair.col z t) s hz every swapped (λ a b e. absurd (cc)) (λ e. absurd (cc)) first p.last hk (λ e. pairs_apart v.numbering pair p (sym e)) row col,
      (between_claims v r t z pair.col pair.row k (swap_item pair.row pair.col z t) s hz every swapped (λ a b e. absurd (cc)) (λ e. absurd (cc)) p.last first hk (pairs_apart v.numbering pair p) col row, tt),
    )

none_between_clauses : (v : VarsValue) (ions : List ℕ) (r t z : ℕ) (pair : Cell) → IsStep v r t → IsZone v.numbering z
    → ((a b : ℕ) → a < b → b < v.numbering.ions → IsSome (rank v.numbering.pairs a b))
    → IsPair v.numbering pair → AllByRecursion (λ i. i < v.numbering.ions) ions → AreEncodedClauses v (by_pair NoneBetween ions r t z pair)
none_between_clauses v ions r t z pair s hz every p hi =
    all_flat_map (λ k. (k < v.numbering.ions) × ((not (k == pair.row) && not (k == pair.col)) ≡ true)) (IsEncodedClause v) (none_between r t z pair) (filter (λ k. not (k == pair.row) && not (k == pair.col)) ions)
    (λ k h. let tests = both (not (k == pair.row)) (not (k == pair.col)) h.1 in
    not_between v r t z pair k s hz every p h.0 (other_of pair.row k tests.0) (other_of pair.col k tests.1))
    (all_filter (λ k. k < v.numbering.ions) (λ k. not (k == pair.row) && not (k == pair.col)) ions hi)

-- ---- ions that stay

-- the item is no place of an ion
IsNoPlace : Item → Type 0
IsNoPlace item = (i p t : ℕ) → item ≢ at_item i p t

-- where two ions are at two times, and items that are no places
four_places : (r t p : ℕ) (pair : Cell) (rest : List Item) → r ≢ t → pair.col ≢ pair.row → AllByRecursion IsNoPlace rest → Differ rest
    → Differ (at_item pair.row p r ∷ at_item pair.col p r ∷ at_item pair.row p t ∷ at_item pair.col p t ∷ rest)
unfolding IsNoPlace
four_places r t p pair rest times ions none d = (
  (
    λ e. ions (ap first_number e),
    (
      λ e. let same : t ≡ r = cc in absurd (times (sym same)),
      (
        λ e. let same : t ≡ r = cc in absurd (times (sym same)),
        all_weaker (λ (x : Item). (i q u : ℕ) → x ≢ at_item i q u) (λ x. x ≢ at_item pair.row p r) rest (λ x h. h pair.row p r) none,
      ),
    ),
  ),
  (
    (
      λ e. let same : t ≡ r = cc in absurd (times (sym same)),
      (
        λ e. let same : t ≡ r = cc in absurd (times (sym same)),
        all_weaker (λ (x : Item). (i q u : ℕ) → x ≢ at_item i q u) (λ x. x ≢ at_item pair.col p r) rest (λ x h. h pair.col p r) none,
      ),
    ),
    (
      (
        λ e. ions (ap first_number e),
        all_weaker (λ (x : Item). (i q u : ℕ) → x ≢ at_item i q u) (λ x. x ≢ at_item pair.row p t) rest (λ x h. h pair.row p t) none,
      ),
      (all_weaker (λ (x : Item). (i q u : ℕ) → x ≢ at_item i q u) (λ x. x ≢ at_item pair.col p t) rest (λ x h. h pair.col p t) none, d),
    ),
  ),
)

four_encoded : (v : VarsValue) (r t p : ℕ) (pair : Cell) (rest : List Item) → IsStep v r t → p < v.numbering.places → IsPair v.numbering pair → AllByRecursion (IsEncoded v) rest
    → AllByRecursion (IsEncoded v) (at_item pair.row p r ∷ at_item pair.col p r ∷ at_item pair.row p t ∷ at_item pair.col p t ∷ rest)
four_encoded v r t p pair rest s hp is all =
    let first = first_below v.numbering pair is in (
      has_at v pair.row p r first hp (before_last v r t s),
      (
        has_at v pair.col p r is.last hp (before_last v r t s),
        (has_at v pair.row p t first hp s.last, (has_at v pair.col p t is.last hp s.last, all)),
      ),
    )

stay_clause : (v : VarsValue) (r t p : ℕ) (pair : Cell) (a b zone : Bool) → IsStep v r t → p < v.numbering.places → IsPair v.numbering pair → (zone ≡ true → p < v.numbering.zones)
    → IsEncodedClause v ((not_so (at_item pair.row p r) ∷ not_so (at_item pair.col p r) ∷ not_so (at_item pair.row p t) ∷ not_so (at_item pair.col p t)
    ∷ (cond zone (so (swap_item pair.row pair.col p t) ∷ []) []))
    ++ record { item = ord_item pair.row pair.col r; positive = a } ∷ record { item = ord_item pair.row pair.col t; positive = b } ∷ [])
unfolding IsNoPlace
stay_clause v r t p pair a b true s hp is inside =
    let before = has_ord v pair.row pair.col r is.there (before_last v r t s) in
    let after = has_ord v pair.row pair.col t is.there s.last in
    let swapped = has_swap v pair.row pair.col p t is.there (inside refl) (from_0 v r t s) s.last in
    let turned = λ (e : ord_item pair.row pair.col t ≡ ord_item pair.row pair.col r). let same : t ≡ r = cc in absurd (steps_apart v r t s (sym same)) in
    record {
      items = four_encoded v r t p pair (swap_item pair.row pair.col p t ∷ ord_item pair.row pair.col r ∷ ord_item pair.row pair.col t ∷ []) s hp is (swapped, (before, (after, tt)));
      differ = four_places r t p pair (swap_item pair.row pair.col p t ∷ ord_item pair.row pair.col r ∷ ord_item pair.row pair.col t ∷ []) (steps_apart v r t s) (pairs_apart v.numbering pair is)
          ((λ i q u e. absurd (cc)), ((λ i q u e. absurd (cc)), ((λ i q u e. absurd (cc)), tt)))
          (((λ e. absurd (cc)), ((λ e. absurd (cc)), tt)), ((turned, tt), (tt, tt)));
    }
stay_clause v r t p pair a b false s hp is inside =
    let before = has_ord v pair.row pair.col r is.there (before_last v r t s) in
    let after = has_ord v pair.row pair.col t is.there s.last in
    let turned = λ (e : ord_item pair.row pair.col t ≡ ord_item pair.row pair.col r). let same : t ≡ r = cc in absurd (steps_apart v r t s (sym same)) in
    record {
      items = four_encoded v r t p pair (ord_item pair.row pair.col r ∷ ord_item pair.row pair.col t ∷ []) s hp is (before, (after, tt));
      differ = four_places r t p pair (ord_item pair.row pair.col r ∷ ord_item pair.row pair.col t ∷ []) (steps_apart v r t s) (pairs_apart v.numbering pair is)
          ((λ i q u e. absurd (cc)), ((λ i q u e. absurd (cc)), tt)) ((turned, tt), (tt, tt));
    }

pub stay_clauses : (v : VarsValue) (zones r t : ℕ) (ions : List ℕ) (pairs : List Cell) (places : List ℕ) → IsStep v r t → zones ≡ v.numbering.zones
    → AllByRecursion (IsPair v.numbering) pairs → AllByRecursion (λ p. p < v.numbering.places) places
    → AreEncodedClauses v (flat_map (λ p. flat_map (by_pair (Stays zones) ions r t p) pairs) places)
stay_clauses v zones r t ions pairs places s same hp hplaces =
    all_flat_map (λ p. p < v.numbering.places) (IsEncodedClause v) (λ p. flat_map (by_pair (Stays zones) ions r t p) pairs) places
    (λ p below. all_flat_map (IsPair v.numbering) (IsEncodedClause v) (by_pair (Stays zones) ions r t p) pairs
    (λ pair is.
    let inside : nat_lt p zones ≡ true → p < v.numbering.zones = λ e. omega (arith, ltb-true p zones e, same) in
    (stay_clause v r t p pair false true (nat_lt p zones) s below is inside, (stay_clause v r t p pair true false (nat_lt p zones) s below is inside, tt))) hp) hplaces

pub swap_clauses : (v : VarsValue) (rule : PairRule) (r t : ℕ) (ions : List ℕ) (pairs : List Cell) (zones : List ℕ)
    → ((z : ℕ) (pair : Cell) → IsZone v.numbering z → IsPair v.numbering pair → AreEncodedClauses v (by_pair rule ions r t z pair))
    → AllByRecursion (IsPair v.numbering) pairs → AllByRecursion (IsZone v.numbering) zones
    → AreEncodedClauses v (flat_map (λ p. flat_map (by_pair rule ions r t p) pairs) zones)
swap_clauses v rule r t ions pairs zones each hp hz =
    all_flat_map (IsZone v.numbering) (IsEncodedClause v) (λ p. flat_map (by_pair rule ions r t p) pairs) zones
    (λ z zone. all_flat_map (IsPair v.numbering) (IsEncodedClause v) (by_pair rule ions r t z) pairs (λ pair is. each z pair zone is) hp) hz

pub in_zone_clauses : (v : VarsValue) (r t : ℕ) (ions : List ℕ) (pairs : List Cell) (zones : List ℕ) → IsStep v r t → AllByRecursion (IsPair v.numbering) pairs → AllByRecursion (IsZone v.numbering) zones
    → AreEncodedClauses v (flat_map (λ p. flat_map (by_pair InZone ions r t p) pairs) zones)
in_zone_clauses v r t ions pairs zones s hp hz = swap_clauses v InZone r t ions pairs zones (λ z pair zone is. in_zone v r t z pair s zone is) hp hz

pub turn_clauses : (v : VarsValue) (r t : ℕ) (ions : List ℕ) (pairs : List Cell) (zones : List ℕ) → IsStep v r t → AllByRecursion (IsPair v.numbering) pairs → AllByRecursion (IsZone v.numbering) zones
    → AreEncodedClauses v (flat_map (λ p. flat_map (by_pair Turns ions r t p) pairs) zones)
turn_clauses v r t ions pairs zones s hp hz = swap_clauses v Turns r t ions pairs zones (λ z pair zone is. turning v r t z pair s zone is) hp hz

pub neighbour_clauses : (v : VarsValue) (r t : ℕ) (ions : List ℕ) (pairs : List Cell) (zones : List ℕ) → IsStep v r t
    → ((a b : ℕ) → a < b → b < v.numbering.ions → IsSome (rank v.numbering.pairs a b))
    → AllByRecursion (λ i. i < v.numbering.ions) ions → AllByRecursion (IsPair v.numbering) pairs → AllByRecursion (IsZone v.numbering) zones
    → AreEncodedClauses v (flat_map (λ p. flat_map (by_pair NoneBetween ions r t p) pairs) zones)
neighbour_clauses v r t ions pairs zones s every hi hp hz = swap_clauses v NoneBetween r t ions pairs zones (λ z pair zone is. none_between_clauses v ions r t z pair s zone every is hi) hp hz
