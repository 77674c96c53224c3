-- Numbers of variables by blocks and parts.
use Rattle.std.proofs.Common.{◌≡◌, ℕ, ◌+◌, ◌-◌, ◌*◌, ◌<◌, ◌≤◌, Bool, true, false, cond, ◌&&◌, Option, Some, None, List, [], ◌∷◌, length, map, add-one, zero, suc, refl, ap, ◌∙◌, arith, inl, inr}
use Rattle.std.specs.Prelude.{nat_lt, nat_le}
use Rattle.std.specs.Option.{option_map}
use Rattle.std.specs.List.{position_from}
use Rattle.std.proofs.lemmas.Bool.{cases_lt, lt-ltb, le-ltb, ltb-true, le-leb, lt-leb}
use Rattle.std.proofs.Math.Nat.{mul-le-mul_left, mul-le-mul_right}
use Rattle.step_vars.specs.declared.item.Item.{Item}
use Rattle.step_vars.specs.declared.item.Item.TheVariants.{At, Ord, Use, Leave, Swap, Act, Done, Goal}
use Rattle.step_vars.specs.Items.{time_of}
use Rattle.step_vars.proofs.Ranks.{place_below}
use Rattle.step_vars.specs.declared.cells.Cell.{Cell}
use Rattle.step_vars.specs.Numbering.{Numbering, first_sizes, later_sizes, sizes_at, part_size, before, rank, is_cell, block_from, index_in_block, is_timely, number_of}
use Rattle.trap_model.specs.Trap.{place_count}
use Rattle.trap_model.specs.Channels.{channels_of}
use Rattle.step_rules.specs.Setting.{SettingValue}
use Rattle.step_vars.specs.declared.encoding.Encoding.{Encoding}
use Rattle.step_vars.specs.Lists.{cell, ion_count, pairs_of, performed, acts_of, orders_of}
use Rattle.step_vars.specs.Encoding.{VarsValue, number_in, vars_of, numbering_of, step_helpers}

pub before_closed : (n : Numbering) (r : ℕ) → part_size (first_sizes n) + r * part_size (later_sizes n) ≡ before n (suc r)
before_closed n zero = omega arith
before_closed n (suc r) = omega (arith, before_closed n r)

pub before_at : (n : Numbering) (t : ℕ) → 0 < t → part_size (first_sizes n) + (t - 1) * part_size (later_sizes n) ≡ before n t
before_at n zero h = absurd (omega arith)
before_at n (suc r) h = let e : suc r - 1 ≡ r = omega arith in rw e (before_closed n r)

here_or_later : (b : Bool) (i k n : ℕ) (rest : Option ℕ) → cond b (Some i) rest ≡ Some k → (rest ≡ Some k → k < i + 1 + n) → k < i + suc n
here_or_later true i k n rest e then = let same : i ≡ k = cc in omega arith
here_or_later false i k n rest e then = omega (arith, then e)

found_below : (row col i k : ℕ) (cells : List Cell) → position_from (is_cell row col) i cells ≡ Some k → k < i + length cells
found_below row col i k [] e = absurd (cc)
found_below row col i k (it ∷ cells) e =
    here_or_later (is_cell row col it) i k (length cells) (position_from (is_cell row col) (i + 1) cells) e (found_below row col (i + 1) k cells)

pub rank_below : (cells : List Cell) (row col k : ℕ) → rank cells row col ≡ Some k → k < length cells
unfolding rank
rank_below cells row col k e = omega (arith, found_below row col 0 k cells e)

-- ---- the place of an item in its part

pub if_some : (b : Bool) (x k : ℕ) → cond b (Some x) None ≡ Some k → (b ≡ true) × (x ≡ k)
if_some true x k e = let same : x ≡ k = cc in (refl, same)
if_some false x k e = absurd (cc)

pub both_true : (a b : Bool) → (a && b) ≡ true → (a ≡ true) × (b ≡ true)
both_true true b e = (refl, e)
both_true false b e = absurd (cc)

pub mapped : {A B : Type 0} (f : A → B) (o : Option A) (y : B) → option_map f o ≡ Some y → (x : A) × ((o ≡ Some x) × (f x ≡ y))
mapped f None y e = absurd (cc)
mapped f (Some x) y e = let same : f x ≡ y = cc in (x, (refl, same))

pub full_below : (rows cols row col k : ℕ) → cond (nat_lt row rows && nat_lt col cols) (Some (row * cols + col)) None ≡ Some k → k < rows * cols
full_below rows cols row col k e =
    let found = if_some (nat_lt row rows && nat_lt col cols) (row * cols + col) k e in
    let both = both_true (nat_lt row rows) (nat_lt col cols) found.0 in
    let below = place_below rows cols row col (ltb-true row rows both.0) (ltb-true col cols both.1) in
    omega (arith, below, found.1)

pub one_below : (count c k : ℕ) → cond (nat_lt c count) (Some c) None ≡ Some k → k < count
one_below count c k e =
    let found = if_some (nat_lt c count) c k e in
    omega (arith, ltb-true c count found.0, found.1)

pub swap_below : (n : Numbering) (i j z k : ℕ) → cond (nat_lt z n.zones) (option_map (λ r. r * n.zones + z) (rank n.pairs i j)) None ≡ Some k → k < length n.pairs * n.zones
swap_below n i j z k e = elim (cases_lt z n.zones) [
  | inl zone ↦
      let inside = mapped (λ r. r * n.zones + z) (rank n.pairs i j) k (rw (lt-ltb z n.zones zone) at e) in
      let below = place_below (length n.pairs) n.zones inside.0 z (rank_below n.pairs i j inside.0 inside.1.0) zone in
      omega (arith, below, inside.1.1)
  | inr past ↦ let none = rw (le-ltb z n.zones past) at e in absurd (cc none)
]

-- an item's place is within its part
pub index_within : (n : Numbering) (item : Item) (k : ℕ) → is_timely item ≡ true → index_in_block n item ≡ Some k
    → block_from (sizes_at n (time_of item)) item + k < part_size (sizes_at n (time_of item))
index_within n (At i p zero) k timely e = omega (arith, full_below n.ions n.places i.0 p.0 k e)
index_within n (At i p (suc r)) k timely e = omega (arith, full_below n.ions n.places i.0 p.0 k e)
index_within n (Ord i j zero) k timely e = omega (arith, rank_below n.pairs i.0 j.0 k e)
index_within n (Ord i j (suc r)) k timely e = omega (arith, rank_below n.pairs i.0 j.0 k e)
index_within n (Use c zero) k timely e = absurd (cc)
index_within n (Use c (suc r)) k timely e = omega (arith, one_below n.channels c k e)
index_within n (Leave i c zero) k timely e = absurd (cc)
index_within n (Leave i c (suc r)) k timely e = omega (arith, full_below n.ions n.channels i.0 c k e)
index_within n (Swap i j z zero) k timely e = absurd (cc)
index_within n (Swap i j z (suc r)) k timely e = omega (arith, swap_below n i.0 j.0 z.0 k e)
index_within n (Act g z zero) k timely e = absurd (cc)
index_within n (Act g z (suc r)) k timely e = omega (arith, rank_below n.acts g.0 z.0 k e)
index_within n (Done g zero) k timely e = omega (arith, rank_below n.ops g.0 0 k e)
index_within n (Done g (suc r)) k timely e = omega (arith, rank_below n.ops g.0 0 k e)
index_within n (Goal zero) k timely e = let zeroth : zero ≡ k = cc in omega arith
index_within n (Goal (suc r)) k timely e = let zeroth : zero ≡ k = cc in omega arith

-- swaps have few places
pub swap_fits : (n : Numbering) (i j z k : ℕ) → length n.pairs ≤ 256 → n.zones ≤ 32 → z < n.zones → rank n.pairs i j ≡ Some k → k * n.zones + z < 256 * 32
swap_fits n i j z k pairs zones h e =
    let below = place_below (length n.pairs) n.zones k z (rank_below n.pairs i j k e) h in
    let rows : length n.pairs * n.zones ≤ 256 * n.zones = mul-le-mul_right n.zones pairs in
    let cols : 256 * n.zones ≤ 256 * 32 = mul-le-mul_left 256 zones in
    omega (arith, below, rows, cols)

pub few_swaps : (pairs : List Cell) (zones i j z k : ℕ) → length pairs ≤ 256 → zones ≤ 32 → z < zones → rank pairs i j ≡ Some k → k * zones + z < 256 * 32
few_swaps pairs zones i j z k few most h e =
    let below = place_below (length pairs) zones k z (rank_below pairs i j k e) h in
    let rows : length pairs * zones ≤ 256 * zones = mul-le-mul_right zones few in
    let cols : 256 * zones ≤ 256 * 32 = mul-le-mul_left 256 most in
    omega (arith, below, rows, cols)

-- ---- the number of an item

pub none_both : {A : Type 0} (b : Bool) (nothing : Option A) → nothing ≡ cond b nothing nothing
none_both true nothing = refl
none_both false nothing = refl

none_inside : (a b : Bool) (nothing : Option ℕ) → nothing ≡ cond b (cond a nothing nothing) nothing
none_inside true true nothing = refl
none_inside true false nothing = refl
none_inside false true nothing = refl
none_inside false false nothing = refl

pub number_late : (vars : VarsValue) (item : Item) → vars.steps < time_of item → None ≡ number_in vars item
number_late vars item h = rw (lt-leb (time_of item) vars.steps h) refl

pub number_untimely : (vars : VarsValue) (item : Item) → is_timely item ≡ false → None ≡ number_in vars item
unfolding number_of
number_untimely vars item h = rw h (none_both (nat_le (time_of item) vars.steps) None)

pub number_none : (vars : VarsValue) (item : Item) → index_in_block vars.numbering item ≡ None → None ≡ number_in vars item
unfolding number_of
number_none vars item h = rw h (none_inside (is_timely item) (nat_le (time_of item) vars.steps) None)

pub number_some : (vars : VarsValue) (item : Item) (k : ℕ) → time_of item ≤ vars.steps → is_timely item ≡ true → index_in_block vars.numbering item ≡ Some k
    → Some (before vars.numbering (time_of item) + block_from (sizes_at vars.numbering (time_of item)) item + k + 1) ≡ number_in vars item
unfolding number_of
number_some vars item k h timely e = rw (le-leb (time_of item) vars.steps h, timely, e) refl

pub before_next : (n : Numbering) (t : ℕ) → before n (t + 1) ≡ before n t + part_size (sizes_at n t)
before_next n t = rw add-one refl

-- the parts of the variables of a setting
pub vars_are : (setting : SettingValue) (encoding : Encoding) (steps ions places zones channels helpers : ℕ) (pairs ops acts orders : List Cell)
    → ions ≡ ion_count setting → places ≡ place_count setting.trap → zones ≡ length setting.trap.zones → channels ≡ length (channels_of setting.trap)
    → pairs ≡ pairs_of ions → ops ≡ map (λ g. cell g 0) (performed setting.circuit) → acts ≡ acts_of setting → helpers ≡ step_helpers setting encoding → orders ≡ orders_of setting.circuit
    → (let made : VarsValue = record {
      numbering = record { ions = ions; places = places; zones = zones; channels = channels; pairs = pairs; ops = ops; acts = acts; helpers = helpers };
      orders = orders;
      encoding = encoding;
      steps = steps;
    } in made ≡ vars_of setting encoding steps)
unfolding vars_of numbering_of
vars_are setting encoding steps ions places zones channels helpers pairs ops acts orders i p z c q o a h r =
    let q' : pairs ≡ pairs_of (ion_count setting) = q ∙ ap (λ k. pairs_of k) i in
    rw (q', i, p, z, c, o, a, h, r) refl
