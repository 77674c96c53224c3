-- Which items have numbers.
use Rattle.std.proofs.Common.{rules, ◌≡◌, ℕ, ◌+◌, ◌*◌, ◌<◌, Bool, true, false, cond, Option, Some, List, [], ◌∷◌, length, zero, suc, refl, arith}
use Rattle.std.specs.Prelude.{slice_index_or, IsSome}
use Rattle.std.specs.List.{Contains, position_from}
use Rattle.std.proofs.lemmas.Bool.{lt-ltb}
use Rattle.step_vars.specs.declared.cells.Cell.{Cell}
use Rattle.step_vars.specs.declared.item.Item.{Item}
use Rattle.step_vars.specs.Items.{at_item, ord_item, use_item, leave_item, swap_item, act_item, done_item, goal_item}
use Rattle.step_vars.specs.Lists.{cell}
use Rattle.step_vars.specs.Numbering.{Numbering, number_of, is_timely, index_in_block, rank, is_cell}
use Rattle.step_vars.proofs.Ranks.{is_itself}

-- ---- a member has a place

first_or_rest : (b : Bool) (i j : ℕ) (rest : Option ℕ) → rest ≡ Some j → (m : ℕ) × (cond b (Some i) rest ≡ Some m)
first_or_rest true i j rest e = (i, refl)
first_or_rest false i j rest e = (j, e)

member_found : (row col i k : ℕ) (cells : List Cell) → k < length cells → slice_index_or cells k (cell row col) ≡ cell row col
    → (m : ℕ) × (position_from (is_cell row col) i cells ≡ Some m)
member_found row col i k [] h e = absurd (omega arith)
member_found row col i zero (it ∷ cells) h e = (i, rw (e, is_itself row col) refl)
member_found row col i (suc k) (it ∷ cells) h e =
    let rest = member_found row col (i + 1) k cells (omega arith) e in
    first_or_rest (is_cell row col it) i rest.0 (position_from (is_cell row col) (i + 1) cells) rest.1

member_rank : (cells : List Cell) (row col : ℕ) → Contains cells (cell row col) → (k : ℕ) × (rank cells row col ≡ Some k)
unfolding rank
member_rank cells row col h = member_found row col 0 h.0 cells h.1 h.2

-- ---- an item with an index has a number

indexed : (n : Numbering) (item : Item) (k : ℕ) → is_timely item ≡ true → index_in_block n item ≡ Some k → IsSome (number_of n item)
unfolding number_of
indexed n item k timely e = rw (timely, e) (search rules)

pub at_has_number : (n : Numbering) (i p t : ℕ) → i < n.ions → p < n.places → IsSome (number_of n (at_item i p t))
at_has_number n i p t hi hp = indexed n (at_item i p t) (i * n.places + p) refl (rw (lt-ltb i n.ions hi, lt-ltb p n.places hp) refl)

pub ord_has_number : (n : Numbering) (i j t : ℕ) → Contains n.pairs (cell i j) → IsSome (number_of n (ord_item i j t))
ord_has_number n i j t h = let place = member_rank n.pairs i j h in indexed n (ord_item i j t) place.0 refl place.1

pub use_has_number : (n : Numbering) (c t : ℕ) → c < n.channels → 0 < t → IsSome (number_of n (use_item c t))
use_has_number n c t hc ht = indexed n (use_item c t) c (lt-ltb 0 t ht) (rw (lt-ltb c n.channels hc) refl)

pub leave_has_number : (n : Numbering) (i c t : ℕ) → i < n.ions → c < n.channels → 0 < t → IsSome (number_of n (leave_item i c t))
leave_has_number n i c t hi hc ht =
    indexed n (leave_item i c t) (i * n.channels + c) (lt-ltb 0 t ht) (rw (lt-ltb i n.ions hi, lt-ltb c n.channels hc) refl)

pub swap_has_number : (n : Numbering) (i j z t : ℕ) → Contains n.pairs (cell i j) → z < n.zones → 0 < t → IsSome (number_of n (swap_item i j z t))
swap_has_number n i j z t h hz ht =
    let place = member_rank n.pairs i j h in
    indexed n (swap_item i j z t) (place.0 * n.zones + z) (lt-ltb 0 t ht) (rw (lt-ltb z n.zones hz, place.1) refl)

pub act_has_number : (n : Numbering) (g z t : ℕ) → Contains n.acts (cell g z) → 0 < t → IsSome (number_of n (act_item g z t))
act_has_number n g z t h ht = let place = member_rank n.acts g z h in indexed n (act_item g z t) place.0 (lt-ltb 0 t ht) place.1

pub done_has_number : (n : Numbering) (g t : ℕ) → Contains n.ops (cell g 0) → IsSome (number_of n (done_item g t))
done_has_number n g t h = let place = member_rank n.ops g 0 h in indexed n (done_item g t) place.0 refl place.1

pub goal_has_number : (n : Numbering) (t : ℕ) → IsSome (number_of n (goal_item t))
goal_has_number n t = indexed n (goal_item t) 0 refl refl
