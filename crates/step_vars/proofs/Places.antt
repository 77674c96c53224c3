-- Each item is found at its place in its part.
use Rattle.std.proofs.Common.{◌≡◌, ℕ, ◌+◌, ◌-◌, ◌*◌, ◌<◌, ◌≤◌, Bool, true, false, cond, ◌&&◌, Option, Some, None, List, [], ◌∷◌, length, zero, suc, refl, ap, arith, inl, inr}
use Rattle.std.specs.Prelude.{◌/◌, ◌%◌, ◌==◌, nat_lt, slice_get}
use Rattle.std.specs.Option.{option_map}
use Rattle.std.specs.List.{position_from}
use Rattle.std.proofs.lemmas.Bool.{cases_lt, lt-ltb, le-ltb, ltb-true, eqb-true}
use Rattle.std.proofs.lemmas.Nat.{div-mul-add, mod-mul-add}
use Rattle.step_vars.specs.declared.cells.Cell.{Cell}
use Rattle.step_vars.specs.declared.item.Item.{Item}
use Rattle.step_vars.specs.declared.item.Item.TheVariants.{At, Ord, Use, Leave, Swap, Act, Done, Goal}
use Rattle.step_vars.specs.declared.sizes.Sizes.{Sizes}
use Rattle.step_vars.specs.Items.{at_item, ord_item, use_item, leave_item, swap_item, act_item, done_item, goal_item, time_of}
use Rattle.step_vars.specs.Lists.{cell}
use Rattle.step_vars.specs.Numbering.{Numbering, sizes_at, ords_from, uses_from, leaves_from, swaps_from, acts_from, dones_from, helpers_from, goal_from, block_from, rank, is_cell, index_in_block, is_timely}
use Rattle.step_vars.specs.ItemOf.{item_at}
use Rattle.step_vars.proofs.Numbers.{if_some, both_true, mapped, full_below, rank_below, swap_below}

-- ---- the cell of a place in a list

same_cell : (a b row col : ℕ) → a ≡ row → b ≡ col → cell a b ≡ cell row col
same_cell a b row col r c = rw (r, c) refl

tested_cell : (row col : ℕ) (it : Cell) → is_cell row col it ≡ true → it ≡ cell row col
tested_cell row col it e =
    let both = both_true (it.row == row) (it.col == col) e in
    same_cell it.row it.col row col (eqb-true it.row row both.0) (eqb-true it.col col both.1)

member_step : (row col i k : ℕ) (it : Cell) (cells : List Cell) (rest : Option ℕ) (b : Bool) → is_cell row col it ≡ b → cond b (Some i) rest ≡ Some k
    → (rest ≡ Some k → (j : ℕ) × ((k ≡ i + 1 + j) × (slice_get cells j ≡ Some (cell row col))))
    → (j : ℕ) × ((k ≡ i + j) × (slice_get (it ∷ cells) j ≡ Some (cell row col)))
member_step row col i k it cells rest true is e later =
    let same : i ≡ k = cc in (zero, (omega arith, ap Some (tested_cell row col it is)))
member_step row col i k it cells rest false is e later = let found = later e in (suc found.0, (omega (arith, found.1.0), found.1.1))

member_from : (row col i k : ℕ) (cells : List Cell) → position_from (is_cell row col) i cells ≡ Some k
    → (j : ℕ) × ((k ≡ i + j) × (slice_get cells j ≡ Some (cell row col)))
member_from row col i k [] e = absurd (cc)
member_from row col i k (it ∷ cells) e =
    member_step row col i k it cells (position_from (is_cell row col) (i + 1) cells) (is_cell row col it) refl e
    (member_from row col (i + 1) k cells)

pub rank_member : (cells : List Cell) (row col k : ℕ) → rank cells row col ≡ Some k → slice_get cells k ≡ Some (cell row col)
unfolding rank
rank_member cells row col k e =
    let found = member_from row col 0 k cells e in
    let same : k ≡ found.0 = omega (arith, found.1.0) in
    rw same found.1.1

-- ---- the item of a place, by blocks

at_placed : (n : Numbering) (s : Sizes) (t i p k place : ℕ) → i < n.ions → p < n.places → i * n.places + p ≡ k → k < s.ats → place ≡ k
    → item_at n s t place ≡ Some (at_item i p t)
at_placed n s t i p k place hi hp e h is =
    let whole : place ≡ i * n.places + p = omega (arith, e) in
    let row : place / n.places ≡ i = rw whole (div-mul-add i n.places p hp) in
    let col : place % n.places ≡ p = rw whole (mod-mul-add i n.places p hp) in
    rw (lt-ltb place (uses_from s) (omega arith), lt-ltb place (ords_from s) (omega arith), row, col) refl

ord_placed : (n : Numbering) (s : Sizes) (t i j k place : ℕ) → rank n.pairs i j ≡ Some k → k < s.ords → place ≡ ords_from s + k
    → item_at n s t place ≡ Some (ord_item i j t)
ord_placed n s t i j k place e h is =
    let index : place - ords_from s ≡ k = omega arith in
    rw (lt-ltb place (uses_from s) (omega arith), le-ltb place (ords_from s) (omega arith), index, rank_member n.pairs i j k e) refl

use_placed : (n : Numbering) (s : Sizes) (t c place : ℕ) → c < s.uses → place ≡ uses_from s + c → item_at n s t place ≡ Some (use_item c t)
use_placed n s t c place h is =
    let index : place - uses_from s ≡ c = omega arith in
    rw (le-ltb place (uses_from s) (omega arith), lt-ltb place (acts_from s) (omega arith), lt-ltb place (leaves_from s) (omega arith), index) refl

leave_placed : (n : Numbering) (s : Sizes) (t i c k place : ℕ) → c < n.channels → i * n.channels + c ≡ k → k < s.leaves → place ≡ leaves_from s + k
    → item_at n s t place ≡ Some (leave_item i c t)
leave_placed n s t i c k place hc e h is =
    let index : place - leaves_from s ≡ i * n.channels + c = omega (arith, e) in
    rw (
      le-ltb place (uses_from s) (omega arith),
      lt-ltb place (acts_from s) (omega arith),
      le-ltb place (leaves_from s) (omega arith),
      lt-ltb place (swaps_from s) (omega arith),
      index,
      div-mul-add i n.channels c hc,
      mod-mul-add i n.channels c hc,
    ) refl

swap_placed : (n : Numbering) (s : Sizes) (t i j z r k place : ℕ) → rank n.pairs i j ≡ Some r → z < n.zones → r * n.zones + z ≡ k → k < s.swaps
    → place ≡ swaps_from s + k → item_at n s t place ≡ Some (swap_item i j z t)
swap_placed n s t i j z r k place pair hz e h is =
    let index : place - swaps_from s ≡ r * n.zones + z = omega (arith, e) in
    rw (
      le-ltb place (uses_from s) (omega arith),
      lt-ltb place (acts_from s) (omega arith),
      le-ltb place (leaves_from s) (omega arith),
      le-ltb place (swaps_from s) (omega arith),
      index,
      div-mul-add r n.zones z hz,
      mod-mul-add r n.zones z hz,
      rank_member n.pairs i j r pair,
    ) refl

act_placed : (n : Numbering) (s : Sizes) (t g z k place : ℕ) → rank n.acts g z ≡ Some k → k < s.acts → place ≡ acts_from s + k
    → item_at n s t place ≡ Some (act_item g z t)
act_placed n s t g z k place e h is =
    let index : place - acts_from s ≡ k = omega arith in
    rw (
      le-ltb place (uses_from s) (omega arith),
      le-ltb place (acts_from s) (omega arith),
      lt-ltb place (dones_from s) (omega arith),
      index,
      rank_member n.acts g z k e,
    ) refl

done_placed : (n : Numbering) (s : Sizes) (t g k place : ℕ) → rank n.ops g 0 ≡ Some k → k < s.dones → place ≡ dones_from s + k
    → item_at n s t place ≡ Some (done_item g t)
done_placed n s t g k place e h is =
    let index : place - dones_from s ≡ k = omega arith in
    rw (
      le-ltb place (uses_from s) (omega arith),
      le-ltb place (acts_from s) (omega arith),
      le-ltb place (dones_from s) (omega arith),
      lt-ltb place (helpers_from s) (omega arith),
      index,
      rank_member n.ops g 0 k e,
    ) refl

pub goal_placed : (n : Numbering) (s : Sizes) (t place : ℕ) → place ≡ goal_from s → item_at n s t place ≡ Some (goal_item t)
goal_placed n s t place is =
    rw (
      le-ltb place (uses_from s) (omega arith),
      le-ltb place (acts_from s) (omega arith),
      le-ltb place (dones_from s) (omega arith),
      le-ltb place (helpers_from s) (omega arith),
      le-ltb place (goal_from s) (omega arith),
    ) refl

-- a helper's place has no item
pub helper_placed : (n : Numbering) (s : Sizes) (t place : ℕ) → helpers_from s ≤ place → place < goal_from s → item_at n s t place ≡ None
helper_placed n s t place from to =
    rw (
      le-ltb place (uses_from s) (omega arith),
      le-ltb place (acts_from s) (omega arith),
      le-ltb place (dones_from s) (omega arith),
      le-ltb place (helpers_from s) (omega arith),
      lt-ltb place (goal_from s) (omega arith),
    ) refl

-- ---- the item of an item's place

full_index : (rows cols row col k : ℕ) → cond (nat_lt row rows && nat_lt col cols) (Some (row * cols + col)) None ≡ Some k
    → (row < rows) × ((col < cols) × (row * cols + col ≡ k))
full_index rows cols row col k e =
    let found = if_some (nat_lt row rows && nat_lt col cols) (row * cols + col) k e in
    let both = both_true (nat_lt row rows) (nat_lt col cols) found.0 in
    (ltb-true row rows both.0, (ltb-true col cols both.1, found.1))

swap_index : (pairs : List Cell) (zones i j z k : ℕ) → cond (nat_lt z zones) (option_map (λ r. r * zones + z) (rank pairs i j)) None ≡ Some k
    → (r : ℕ) × ((rank pairs i j ≡ Some r) × ((z < zones) × (r * zones + z ≡ k)))
swap_index pairs zones i j z k e = elim (cases_lt z zones) [
  | inl zone ↦
      let inside = mapped (λ r. r * zones + z) (rank pairs i j) k (rw (lt-ltb z zones zone) at e) in
      (inside.0, (inside.1.0, (zone, inside.1.1)))
  | inr past ↦ let none = rw (le-ltb z zones past) at e in absurd (cc none)
]

pub ats_are : (n : Numbering) (t : ℕ) → (sizes_at n t).ats ≡ n.ions * n.places
ats_are n zero = refl
ats_are n (suc r) = refl

pub ords_are : (n : Numbering) (t : ℕ) → (sizes_at n t).ords ≡ length n.pairs
ords_are n zero = refl
ords_are n (suc r) = refl

pub dones_are : (n : Numbering) (t : ℕ) → (sizes_at n t).dones ≡ length n.ops
dones_are n zero = refl
dones_are n (suc r) = refl

pub item_placed : (n : Numbering) (item : Item) (k place : ℕ) → is_timely item ≡ true → index_in_block n item ≡ Some k
    → place ≡ block_from (sizes_at n (time_of item)) item + k
    → item_at n (sizes_at n (time_of item)) (time_of item) place ≡ Some item
item_placed n (At i p t) k place timely e is =
    let index = full_index n.ions n.places i.0 p.0 k e in
    at_placed n (sizes_at n t) t i.0 p.0 k place index.0 index.1.0 index.1.1 (rw (ats_are n t) (full_below n.ions n.places i.0 p.0 k e)) (omega arith)
item_placed n (Ord i j t) k place timely e is = ord_placed n (sizes_at n t) t i.0 j.0 k place e (rw (ords_are n t) (rank_below n.pairs i.0 j.0 k e)) is
item_placed n (Use c zero) k place timely e is = absurd (cc)
item_placed n (Use c (suc r)) k place timely e is =
    let index = if_some (nat_lt c n.channels) c k e in
    use_placed n (sizes_at n (suc r)) (suc r) c place (ltb-true c n.channels index.0) (omega (arith, index.1))
item_placed n (Leave i c zero) k place timely e is = absurd (cc)
item_placed n (Leave i c (suc r)) k place timely e is =
    let index = full_index n.ions n.channels i.0 c k e in
    leave_placed n (sizes_at n (suc r)) (suc r) i.0 c k place index.1.0 index.1.1 (full_below n.ions n.channels i.0 c k e) is
item_placed n (Swap i j z zero) k place timely e is = absurd (cc)
item_placed n (Swap i j z (suc r)) k place timely e is =
    let index = swap_index n.pairs n.zones i.0 j.0 z.0 k e in
    swap_placed n (sizes_at n (suc r)) (suc r) i.0 j.0 z.0 index.0 k place index.1.0 index.1.1.0 index.1.1.1 (swap_below n i.0 j.0 z.0 k e) is
item_placed n (Act g z zero) k place timely e is = absurd (cc)
item_placed n (Act g z (suc r)) k place timely e is = act_placed n (sizes_at n (suc r)) (suc r) g.0 z.0 k place e (rank_below n.acts g.0 z.0 k e) is
item_placed n (Done g t) k place timely e is = done_placed n (sizes_at n t) t g.0 k place e (rw (dones_are n t) (rank_below n.ops g.0 0 k e)) is
item_placed n (Goal t) k place timely e is = let zeroth : zero ≡ k = cc in goal_placed n (sizes_at n t) t place (omega arith)
