-- The members of the lists of a setting are within its encoding.
use Rattle.std.proofs.Common.{◌≡◌, ◌≢◌, ℕ, zero, suc, ◌+◌, ◌-◌, ◌<◌, ◌≤◌, Bool, true, false, cond, Option, Some, List, [], ◌∷◌, map, length, refl, ap, sym, subst, arith, inl, inr}
use Rattle.std.specs.Prelude.{IsSome, filter}
use Rattle.std.specs.List.{AllByRecursion, range_with_len, position_from}
use Rattle.std.proofs.lemmas.Bool.{cases_lt, eq-eqb}
use Rattle.std.proofs.lemmas.List.Elements.{recursion_from_All}
use Rattle.trap_model.specs.declared.channel.Channel.{Channel}
use Rattle.trap_model.specs.Trap.{place_count}
use Rattle.trap_model.specs.Channels.{channels_of, AreWithin}
use Rattle.step_rules.specs.Setting.{SettingValue}
use Rattle.circuit_core.specs.Deciding.{is_forced}
use Rattle.step_rules.specs.Guards.{is_able_for}
use Rattle.step_vars.specs.declared.cells.Cell.{Cell}
use Rattle.step_vars.specs.declared.channel_test.NumberedChannel.{NumberedChannel}
use Rattle.step_vars.specs.Numbering.{Numbering, rank, is_cell}
use Rattle.step_vars.specs.Lists.{cell, between, ion_count, zones_of, pairs_of, performed, able_zones, forced_before, acts_of, orders_of, numbered_from}
use Rattle.step_vars.specs.Families.{pairs_in}
use Rattle.step_vars.specs.Encoding.{VarsValue, vars_of, numbering_of}
use Rattle.clause_families.specs.Clauses.{number_of}
use Rattle.clause_families.specs.Encoded.{Differ}
use Rattle.step_clauses.specs.Loops.{HasEnds, IsPair, IsZone, IsOp, IsAct, HasZones, Loops}
use Rattle.clause_families.proofs.Every.{all_weaker, all_both, all_map, all_map_back, all_flat_map, all_flat_map_back, all_filter_kept, all_range_from, all_range, differ_filter, differ_range}

-- ---- members have ranks

is_itself : (it : Cell) → is_cell it.row it.col it ≡ true
is_itself it = rw (eq-eqb it.row it.row refl, eq-eqb it.col it.col refl) refl

found_later : (b : Bool) (k : ℕ) (rest : Option ℕ) → IsSome rest → IsSome (cond b (Some k) rest)
found_later true k rest h = refl
found_later false k rest h = h

found_here : (p : Cell → Bool) (it : Cell) (k : ℕ) (rest : Option ℕ) → p it ≡ true → IsSome (cond (p it) (Some k) rest)
found_here p it k rest h = rw h refl

all_found : (k : ℕ) (cells : List Cell) → AllByRecursion (λ (it : Cell). IsSome (position_from (is_cell it.row it.col) k cells)) cells
all_found k [] = tt
all_found k (c ∷ cells) = (
  found_here (is_cell c.row c.col) c k (position_from (is_cell c.row c.col) (k + 1) cells) (is_itself c),
  all_weaker (λ (it : Cell). IsSome (position_from (is_cell it.row it.col) (k + 1) cells)) (λ (it : Cell). IsSome (position_from (is_cell it.row it.col) k (c ∷ cells))) cells
      (λ it h. found_later (is_cell it.row it.col c) k (position_from (is_cell it.row it.col) (k + 1) cells) h) (all_found (k + 1) cells),
)

pub all_ranked : (cells : List Cell) → AllByRecursion (λ (it : Cell). IsSome (rank cells it.row it.col)) cells
unfolding rank
all_ranked cells = all_found 0 cells

-- ---- a member of a list of numbers

pub at_number : (P : ℕ → Type 0) (a n k : ℕ) → a ≤ k → k < a + n → AllByRecursion P (range_with_len a n) → P k
at_number P a zero k low high all = absurd (omega arith)
at_number P a (suc n) k low high all = elim (cases_lt a k) [
  | inl later ↦ at_number P (a + 1) n k (omega arith) (omega arith) all.1
  | inr here ↦ let same : a ≡ k = omega arith in subst P same all.0
]

kept : (P : ℕ → Type 0) (p : ℕ → Bool) (x : ℕ) (b : Bool) (xs : List ℕ) → p x ≡ b → AllByRecursion P (cond b (x ∷ xs) xs) → (p x ≡ true → P x) × AllByRecursion P xs
kept P p x true xs e all = ((λ h. all.0), all.1)
kept P p x false xs e all = ((λ h. absurd (cc)), all)

-- what holds of those that pass holds of each that passes
pub of_passing : (P : ℕ → Type 0) (p : ℕ → Bool) (xs : List ℕ) → AllByRecursion P (filter p xs) → AllByRecursion (λ x. p x ≡ true → P x) xs
of_passing P p [] all = tt
of_passing P p (x ∷ xs) all = let parts = kept P p x (p x) (filter p xs) refl all in (parts.0, of_passing P p xs parts.1)

-- ---- pairs

every_pair : (Q : Cell → Type 0) (n i j : ℕ) → i < j → j < n → AllByRecursion Q (pairs_of n) → Q (cell i j)
every_pair Q n i j below last all =
    let rows = all_flat_map_back Q (λ i. map (cell i) (between (i + 1) n)) (range_with_len 0 n) all in
    let row = at_number (λ i. AllByRecursion Q (map (cell i) (between (i + 1) n))) 0 n i (omega arith) (omega arith) rows in
    at_number (λ j. Q (cell i j)) (i + 1) (n - (i + 1)) j (omega arith) (omega arith) (all_map_back Q (cell i) (between (i + 1) n) row)

ordered : (n : ℕ) → AllByRecursion (λ (pair : Cell). (pair.row < pair.col) × (pair.col < n)) (pairs_of n)
ordered n =
    all_flat_map (λ i. i < n) (λ (pair : Cell). (pair.row < pair.col) × (pair.col < n)) (λ i. map (cell i) (between (i + 1) n)) (range_with_len 0 n)
    (λ i below. all_map (λ k. (i + 1 ≤ k) × (k < i + 1 + (n - (i + 1)))) (λ (pair : Cell). (pair.row < pair.col) × (pair.col < n)) (cell i) (between (i + 1) n)
    (λ k h. (omega (arith, h.0), omega (arith, h.1))) (all_range_from (i + 1) (n - (i + 1)))) (all_range n)

are_pairs : (n : Numbering) (ions : ℕ) → ions ≡ n.ions → n.pairs ≡ pairs_of ions → AllByRecursion (IsPair n) (pairs_of ions)
are_pairs n ions same listed =
    all_weaker (λ (pair : Cell). ((pair.row < pair.col) × (pair.col < ions)) × IsSome (rank (pairs_of ions) pair.row pair.col)) (IsPair n) (pairs_of ions)
    (λ pair h. record { order = h.0.0; last = omega (arith, h.0.1, same); there = rw listed h.1 })
    (all_both (λ (pair : Cell). (pair.row < pair.col) × (pair.col < ions)) (λ (pair : Cell). IsSome (rank (pairs_of ions) pair.row pair.col)) (pairs_of ions) (ordered ions) (all_ranked (pairs_of ions)))

-- ---- channels

are_ends : (n : Numbering) (places a : ℕ) (channels : List Channel) → places ≡ n.places → a + length channels ≤ n.channels → AllByRecursion (λ (c : Channel). (c.from.0 < places) × (c.to.0 < places)) channels
    → AllByRecursion (HasEnds n) (numbered_from a channels)
are_ends n places a [] same few all = tt
are_ends n places a (c ∷ channels) same few all = (
  record { number = omega arith; from = omega (arith, all.0.0, same); to = omega (arith, all.0.1, same) },
  are_ends n places (a + 1) channels same (omega arith) all.1,
)

-- the numbers of channels that pass differ
later_numbers : (a : ℕ) (channels : List Channel) → AllByRecursion (λ (c : NumberedChannel). a ≤ c.number) (numbered_from a channels)
later_numbers a [] = tt
later_numbers a (c ∷ channels) =
    let here : a ≤ a = omega arith in
    (here, all_weaker (λ (c : NumberedChannel). a + 1 ≤ c.number) (λ (c : NumberedChannel). a ≤ c.number) (numbered_from (a + 1) channels) (λ c h. omega (arith, h)) (later_numbers (a + 1) channels))

one_differs : (x : NumberedChannel) (b : Bool) (xs : List NumberedChannel) → AllByRecursion (λ y. y ≢ x.number) (map number_of xs) → Differ (map number_of xs) → Differ (map number_of (cond b (x ∷ xs) xs))
one_differs x true xs apart d = (apart, d)
one_differs x false xs apart d = d

pub numbers_differ : (p : NumberedChannel → Bool) (a : ℕ) (channels : List Channel) → Differ (map number_of (filter p (numbered_from a channels)))
numbers_differ p a [] = tt
numbers_differ p a (c ∷ channels) =
    let first : NumberedChannel = record { number = a; channel = c } in
    let rest = numbered_from (a + 1) channels in
    one_differs first (p first) (filter p rest)
    (all_map (λ (d : NumberedChannel). a + 1 ≤ d.number) (λ k. k ≢ a) number_of (filter p rest) (λ d h e. absurd (omega (arith, h, e)))
    (all_filter_kept (λ (d : NumberedChannel). a + 1 ≤ d.number) p rest (later_numbers (a + 1) channels)))
    (numbers_differ p (a + 1) channels)

-- ---- operations

-- what the numbering of a setting has
pub record HasLists (n : Numbering) (s : SettingValue) : Type 0 where
  pub ions : n.ions ≡ ion_count s
  pub places : n.places ≡ place_count s.trap
  pub zones : n.zones ≡ length s.trap.zones
  pub channels : n.channels ≡ length (channels_of s.trap)
  pub pairs : n.pairs ≡ pairs_in s
  pub ops : n.ops ≡ map (λ g. cell g 0) (performed s.circuit)
  pub acts : n.acts ≡ acts_of s

pub has_lists : (v : VarsValue) (s : SettingValue) → v ≡ vars_of s v.encoding v.steps → HasLists v.numbering s
unfolding vars_of numbering_of
has_lists v s e = record {
  ions = ap (λ (w : VarsValue). w.numbering.ions) e;
  places = ap (λ (w : VarsValue). w.numbering.places) e;
  zones = ap (λ (w : VarsValue). w.numbering.zones) e;
  channels = ap (λ (w : VarsValue). w.numbering.channels) e;
  pairs = ap (λ (w : VarsValue). w.numbering.pairs) e;
  ops = ap (λ (w : VarsValue). w.numbering.ops) e;
  acts = ap (λ (w : VarsValue). w.numbering.acts) e;
}

pub are_ops : (n : Numbering) (s : SettingValue) → HasLists n s → AllByRecursion (IsOp n) (performed s.circuit)
are_ops n s has =
    let cells = map (λ g. cell g 0) (performed s.circuit) in
    rw has.ops (all_map_back (λ (it : Cell). IsSome (rank cells it.row it.col)) (λ g. cell g 0) (performed s.circuit) (all_ranked cells))

are_acts : (n : Numbering) (s : SettingValue) → HasLists n s → AllByRecursion (λ g. AllByRecursion (λ z. IsSome (rank n.acts g z)) (able_zones s g)) (performed s.circuit)
are_acts n s has =
    let P : Cell → Type 0 = λ it. IsSome (rank n.acts it.row it.col) in
    let all : AllByRecursion P (acts_of s) = rw has.acts (all_ranked (acts_of s)) in
    all_weaker (λ g. AllByRecursion P (map (cell g) (able_zones s g))) (λ g. AllByRecursion (λ z. IsSome (rank n.acts g z)) (able_zones s g)) (performed s.circuit)
    (λ g h. all_map_back P (cell g) (able_zones s g) h)
    (all_flat_map_back P (λ g. map (cell g) (able_zones s g)) (performed s.circuit) all)

zone_places : (n : Numbering) (s : SettingValue) → HasLists n s → AllByRecursion (IsZone n) (zones_of s)
zone_places n s has =
    all_weaker (λ z. z < length s.trap.zones) (IsZone n) (zones_of s)
    (λ z below. record { zone = omega (arith, has.zones, below); place = omega (arith, has.places, below) }) (all_range (length s.trap.zones))

op_zones : (n : Numbering) (s : SettingValue) → HasLists n s → AllByRecursion (HasZones n s) (performed s.circuit)
op_zones n s has =
    all_weaker (λ g. IsOp n g × AllByRecursion (λ z. IsSome (rank n.acts g z)) (able_zones s g)) (HasZones n s) (performed s.circuit)
    (λ g h. record {
      op = h.0;
      zones = all_weaker (λ z. IsSome (rank n.acts g z) × IsZone n z) (IsAct n g) (able_zones s g) (λ z both. record { act = both.0; zone = both.1.place })
          (all_both (λ z. IsSome (rank n.acts g z)) (IsZone n) (able_zones s g) h.1 (all_filter_kept (IsZone n) (λ z. is_able_for s z g) (zones_of s) (zone_places n s has)));
      differ = differ_filter (λ z. is_able_for s z g) (zones_of s) (differ_range 0 (length s.trap.zones));
    })
    (all_both (IsOp n) (λ g. AllByRecursion (λ z. IsSome (rank n.acts g z)) (able_zones s g)) (performed s.circuit) (are_ops n s has) (are_acts n s has))

act_ops : (n : Numbering) (s : SettingValue) → HasLists n s → AllByRecursion (λ (act : Cell). IsSome (rank n.acts act.row act.col) × IsOp n act.row) (acts_of s)
act_ops n s has =
    all_flat_map (HasZones n s) (λ (act : Cell). IsSome (rank n.acts act.row act.col) × IsOp n act.row) (λ g. map (cell g) (able_zones s g)) (performed s.circuit)
    (λ g h. all_map (IsAct n g) (λ (act : Cell). IsSome (rank n.acts act.row act.col) × IsOp n act.row) (cell g) (able_zones s g) (λ z act. (act.act, h.op)) h.zones) (op_zones n s has)

order_ops : (n : Numbering) (s : SettingValue) → HasLists n s → AllByRecursion (λ (order : Cell). IsOp n order.row × IsOp n order.col) (orders_of s.circuit)
order_ops n s has =
    all_flat_map (IsOp n) (λ (order : Cell). IsOp n order.row × IsOp n order.col) (λ g. map (cell g) (forced_before s.circuit g)) (performed s.circuit)
    (λ g h. all_map (IsOp n) (λ (order : Cell). IsOp n order.row × IsOp n order.col) (cell g) (forced_before s.circuit g) (λ k other. (h, other))
    (all_filter_kept (IsOp n) (λ k. is_forced s.circuit k g) (performed s.circuit) (are_ops n s has))) (are_ops n s has)

below_equal : (m n : ℕ) → n ≡ m → AllByRecursion (λ k. k < n) (range_with_len 0 m)
below_equal m n e = all_weaker (λ k. k < m) (λ k. k < n) (range_with_len 0 m) (λ k h. omega (arith, e, h)) (all_range m)

pub loops_of : (v : VarsValue) (s : SettingValue) → v ≡ vars_of s v.encoding v.steps → AreWithin s.trap (channels_of s.trap) → Loops v.numbering s
loops_of v s e within =
    let n = v.numbering in
    let has = has_lists v s e in
    let pairs = are_pairs n (ion_count s) (sym has.ions) has.pairs in
    record {
      ions = below_equal (ion_count s) n.ions has.ions;
      places = below_equal (place_count s.trap) n.places has.places;
      zones = zone_places n s has;
      channels = are_ends n (place_count s.trap) 0 (channels_of s.trap) (sym has.places) (omega (arith, has.channels)) (recursion_from_All _ (channels_of s.trap) within);
      pairs = pairs;
      every = λ i j below last. (every_pair (IsPair n) (ion_count s) i j below (omega (arith, has.ions, last)) pairs).there;
      ops = op_zones n s has;
      acts = act_ops n s has;
      orders = order_ops n s has;
    }
