-- What is found at a place has this place.
use Rattle.std.proofs.Common.{◌≡◌, ℕ, ◌+◌, ◌-◌, ◌*◌, ◌<◌, ◌≤◌, true, cond, ◌&&◌, Some, None, List, [], ◌∷◌, length, zero, suc, refl, ap, arith, inl, inr, subst, map}
use Rattle.std.specs.Prelude.{◌/◌, ◌%◌, nat_lt, slice_get}
use Rattle.std.specs.Option.{option_map}
use Rattle.std.proofs.lemmas.Bool.{cases_lt, lt-ltb, le-ltb}
use Rattle.std.proofs.lemmas.Nat.{div_below, mod_below, div-add-mod'}
use Rattle.step_vars.specs.declared.cells.Cell.{Cell}
use Rattle.step_vars.specs.declared.item.Item.{Item}
use Rattle.step_vars.specs.declared.sizes.Sizes.{Sizes}
use Rattle.step_vars.specs.Lists.{cell}
use Rattle.step_vars.specs.Items.{at_item, ord_item, use_item, swap_item, act_item, done_item, goal_item}
use Rattle.step_vars.specs.Numbering.{Numbering, sizes_at, part_size, ords_from, uses_from, leaves_from, swaps_from, acts_from, dones_from, helpers_from, goal_from, rank}
use Rattle.step_vars.specs.Tables.{HaveOwnPlaces, AreInColumn0, AreFound}
use Rattle.step_vars.specs.ItemOf.{IsAt, item_at, position_at, transport_at, operation_at, swap_at, leave_at, act_at}
use Rattle.step_vars.proofs.Numbers.{mapped}
use Rattle.step_vars.proofs.Places.{ats_are}

pub some_cols : (rows cols k : ℕ) → k < rows * cols → 0 < cols
some_cols rows zero k h = absurd (omega arith)
some_cols rows (suc cols) k h = omega arith

-- the row and the column of a place in a grid are within it
pub in_grid : (rows cols k : ℕ) → k < rows * cols
    → cond (nat_lt (k / cols) rows && nat_lt (k % cols) cols) (Some (k / cols * cols + k % cols)) None ≡ Some k
in_grid rows cols k h =
    let cols_positive = some_cols rows cols k h in
    rw (lt-ltb (k / cols) rows (div_below k cols rows cols_positive h), lt-ltb (k % cols) cols (mod_below k cols cols_positive)) (ap Some (div-add-mod' k cols))

at_back : (n : Numbering) (t place : ℕ) (item : Item) → place < n.ions * n.places → Some (at_item (place / n.places) (place % n.places) t) ≡ Some item → IsAt n t place item
at_back n t place item h e =
    let same : at_item (place / n.places) (place % n.places) t ≡ item = cc in
    subst (IsAt n t place) same (record { timely = refl; time = refl; index = place; found = in_grid n.ions n.places place h; at = omega arith })

ord_back : (n : Numbering) (t k place : ℕ) (item : Item) → HaveOwnPlaces n.pairs → ords_from (sizes_at n t) + k ≡ place
    → option_map (λ (pair : Cell). ord_item pair.row pair.col t) (slice_get n.pairs k) ≡ Some item → IsAt n t place item
ord_back n t k place item own is e =
    let found = mapped (λ (pair : Cell). ord_item pair.row pair.col t) (slice_get n.pairs k) item e in
    subst (IsAt n t place) found.1.1 (record { timely = refl; time = refl; index = k; found = own k found.0 found.1.0; at = is })

-- what happens in a step is in no part 0
after_start : (r : ℕ) → nat_lt 0 (suc r) ≡ true
after_start r = lt-ltb 0 (suc r) (omega arith)

use_back : (n : Numbering) (r c place : ℕ) (item : Item) → c < n.channels → uses_from (sizes_at n (suc r)) + c ≡ place
    → Some (use_item c (suc r)) ≡ Some item → IsAt n (suc r) place item
use_back n r c place item h is e =
    let same : use_item c (suc r) ≡ item = cc in
    subst (IsAt n (suc r) place) same (record { timely = after_start r; time = refl; index = c; found = rw (lt-ltb c n.channels h) refl; at = is })

leave_back : (n : Numbering) (r k place : ℕ) (item : Item) → k < n.ions * n.channels → leaves_from (sizes_at n (suc r)) + k ≡ place
    → Some (leave_at n (suc r) k) ≡ Some item → IsAt n (suc r) place item
leave_back n r k place item h is e =
    let same : leave_at n (suc r) k ≡ item = cc in
    subst (IsAt n (suc r) place) same (record { timely = after_start r; time = refl; index = k; found = in_grid n.ions n.channels k h; at = is })

swap_found : (pairs : List Cell) (zones i j k : ℕ) → 0 < zones → rank pairs i j ≡ Some (k / zones)
    → cond (nat_lt (k % zones) zones) (option_map (λ r. r * zones + k % zones) (rank pairs i j)) None ≡ Some k
swap_found pairs zones i j k h e = rw (lt-ltb (k % zones) zones (mod_below k zones h), e) (ap Some (div-add-mod' k zones))

swap_back : (n : Numbering) (r k place : ℕ) (item : Item) → HaveOwnPlaces n.pairs → k < length n.pairs * n.zones → swaps_from (sizes_at n (suc r)) + k ≡ place
    → swap_at n (suc r) k ≡ Some item → IsAt n (suc r) place item
swap_back n r k place item own h is e =
    let found = mapped (λ (pair : Cell). swap_item pair.row pair.col (k % n.zones) (suc r)) (slice_get n.pairs (k / n.zones)) item e in
    let pair = found.0 in
    subst (IsAt n (suc r) place) found.1.1 (record {
      timely = after_start r;
      time = refl;
      index = k;
      found = swap_found n.pairs n.zones pair.row pair.col k (some_cols (length n.pairs) n.zones k h) (own (k / n.zones) pair found.1.0);
      at = is;
    })

act_back : (n : Numbering) (r k place : ℕ) (item : Item) → HaveOwnPlaces n.acts → acts_from (sizes_at n (suc r)) + k ≡ place
    → option_map (λ (act : Cell). act_item act.row act.col (suc r)) (slice_get n.acts k) ≡ Some item → IsAt n (suc r) place item
act_back n r k place item own is e =
    let found = mapped (λ (act : Cell). act_item act.row act.col (suc r)) (slice_get n.acts k) item e in
    subst (IsAt n (suc r) place) found.1.1 (record { timely = after_start r; time = refl; index = k; found = own k found.0 found.1.0; at = is })

in_column : (cells : List Cell) (k : ℕ) (it : Cell) → AreInColumn0 cells → slice_get cells k ≡ Some it → it.col ≡ 0
in_column [] k it all e = absurd (cc)
in_column (c ∷ cells) zero it all e = let same : c ≡ it = cc in rw (← same) all.0
in_column (c ∷ cells) (suc k) it all e = in_column cells k it all.1 e

done_back : (n : Numbering) (t k place : ℕ) (item : Item) → HaveOwnPlaces n.ops → AreInColumn0 n.ops → dones_from (sizes_at n t) + k ≡ place
    → option_map (λ (op : Cell). done_item op.row t) (slice_get n.ops k) ≡ Some item → IsAt n t place item
done_back n t k place item own column is e =
    let found = mapped (λ (op : Cell). done_item op.row t) (slice_get n.ops k) item e in
    let op = found.0 in
    let first = in_column n.ops k op column found.1.0 in
    let ranked = rw first at (own k op found.1.0) in
    subst (IsAt n t place) found.1.1 (record { timely = refl; time = refl; index = k; found = ranked; at = is })

goal_back : (n : Numbering) (t place : ℕ) (item : Item) → goal_from (sizes_at n t) ≡ place → Some (goal_item t) ≡ Some item → IsAt n t place item
goal_back n t place item is e =
    let same : goal_item t ≡ item = cc in
    subst (IsAt n t place) same (record { timely = refl; time = refl; index = 0; found = refl; at = omega arith })

-- ---- by blocks

position_back : (n : Numbering) (t place : ℕ) (item : Item) → HaveOwnPlaces n.pairs → position_at n (sizes_at n t) t place ≡ Some item → IsAt n t place item
position_back n t place item own e =
    let s = sizes_at n t in
    elim (cases_lt place (ords_from s)) [
      | inl ats ↦ at_back n t place item (rw (← ats_are n t) ats) (rw (lt-ltb place (ords_from s) ats) at e)
      | inr ords ↦
          ord_back n t (place - ords_from s) place item own (omega arith) (rw (le-ltb place (ords_from s) ords) at e)
    ]

transport_back : (n : Numbering) (r place : ℕ) (item : Item) → HaveOwnPlaces n.pairs → uses_from (sizes_at n (suc r)) ≤ place → place < acts_from (sizes_at n (suc r))
    → transport_at n (sizes_at n (suc r)) (suc r) place ≡ Some item → IsAt n (suc r) place item
transport_back n r place item own from to e =
    let s = sizes_at n (suc r) in
    elim (cases_lt place (leaves_from s)) [
      | inl uses ↦
          use_back n r (place - uses_from s) place item (omega arith) (omega arith) (rw (lt-ltb place (leaves_from s) uses) at e)
      | inr past ↦ elim (cases_lt place (swaps_from s)) [
        | inl leaves ↦
            leave_back n r (place - leaves_from s) place item (omega arith) (omega arith)
            (rw (le-ltb place (leaves_from s) past, lt-ltb place (swaps_from s) leaves) at e)
        | inr swaps ↦
            swap_back n r (place - swaps_from s) place item own (omega arith) (omega arith)
            (rw (le-ltb place (leaves_from s) past, le-ltb place (swaps_from s) swaps) at e)
      ]
    ]

act_back_at : (n : Numbering) (t place : ℕ) (item : Item) → HaveOwnPlaces n.acts → acts_from (sizes_at n t) ≤ place → place < dones_from (sizes_at n t)
    → act_at n t (place - acts_from (sizes_at n t)) ≡ Some item → IsAt n t place item
act_back_at n zero place item own from to e = absurd (omega arith)
act_back_at n (suc r) place item own from to e = act_back n r (place - acts_from (sizes_at n (suc r))) place item own (omega arith) e

operation_back : (n : Numbering) (t place : ℕ) (item : Item) → AreFound n → acts_from (sizes_at n t) ≤ place → place < part_size (sizes_at n t)
    → operation_at n (sizes_at n t) t place ≡ Some item → IsAt n t place item
operation_back n t place item own from to e =
    let s = sizes_at n t in
    elim (cases_lt place (dones_from s)) [
      | inl acts ↦ act_back_at n t place item own.acts from acts (rw (lt-ltb place (dones_from s) acts) at e)
      | inr past ↦ elim (cases_lt place (helpers_from s)) [
        | inl dones ↦
            done_back n t (place - dones_from s) place item own.ops own.column (omega arith)
            (rw (le-ltb place (dones_from s) past, lt-ltb place (helpers_from s) dones) at e)
        | inr further ↦ elim (cases_lt place (goal_from s)) [
          | inl helpers ↦
              let none = rw (le-ltb place (dones_from s) past, le-ltb place (helpers_from s) further, lt-ltb place (goal_from s) helpers) at e in
              absurd (cc none)
          | inr goal ↦
              goal_back n t place item (omega arith)
              (rw (le-ltb place (dones_from s) past, le-ltb place (helpers_from s) further, le-ltb place (goal_from s) goal) at e)
        ]
      ]
    ]

transport_back_at : (n : Numbering) (t place : ℕ) (item : Item) → HaveOwnPlaces n.pairs → uses_from (sizes_at n t) ≤ place → place < acts_from (sizes_at n t)
    → transport_at n (sizes_at n t) t place ≡ Some item → IsAt n t place item
transport_back_at n zero place item own from to e = absurd (omega arith)
transport_back_at n (suc r) place item own from to e = transport_back n r place item own from to e

pub place_back : (n : Numbering) (t place : ℕ) (item : Item) → AreFound n → place < part_size (sizes_at n t)
    → item_at n (sizes_at n t) t place ≡ Some item → IsAt n t place item
place_back n t place item own to e =
    let s = sizes_at n t in
    elim (cases_lt place (uses_from s)) [
      | inl positions ↦ position_back n t place item own.pairs (rw (lt-ltb place (uses_from s) positions) at e)
      | inr past ↦ elim (cases_lt place (acts_from s)) [
        | inl transports ↦
            transport_back_at n t place item own.pairs past transports
            (rw (le-ltb place (uses_from s) past, lt-ltb place (acts_from s) transports) at e)
        | inr further ↦
            operation_back n t place item own further to
            (rw (le-ltb place (uses_from s) past, le-ltb place (acts_from s) further) at e)
      ]
    ]

-- ---- what a place in a block needs

pub some_places : (n : Numbering) (s : Sizes) (t place : ℕ) → s ≡ sizes_at n t → place < ords_from s → 0 < n.places
some_places n s t place e h = some_cols n.ions n.places place (omega (arith, ats_are n t, ap (λ (s : Sizes). s.ats) e))

pub some_channels : (n : Numbering) (s : Sizes) (t place : ℕ) → s ≡ sizes_at n t → leaves_from s ≤ place → place < swaps_from s → 0 < n.channels
some_channels n s zero place e from to = absurd (omega (arith, ap (λ (s : Sizes). s.leaves) e))
some_channels n s (suc r) place e from to =
    some_cols n.ions n.channels (place - leaves_from s) (omega (arith, ap (λ (s : Sizes). s.leaves) e))

pub some_zones : (n : Numbering) (s : Sizes) (t place : ℕ) → s ≡ sizes_at n t → swaps_from s ≤ place → place < acts_from s → 0 < n.zones
some_zones n s zero place e from to = absurd (omega (arith, ap (λ (s : Sizes). s.swaps) e))
some_zones n s (suc r) place e from to =
    some_cols (length n.pairs) n.zones (place - swaps_from s) (omega (arith, ap (λ (s : Sizes). s.swaps) e))

made_in_column_0 : (gs : List ℕ) → AreInColumn0 (map (λ g. cell g 0) gs)
made_in_column_0 [] = tt
made_in_column_0 (g ∷ gs) = (refl, made_in_column_0 gs)

pub in_column_0 : (gs : List ℕ) (ops : List Cell) → ops ≡ map (λ g. cell g 0) gs → AreInColumn0 ops
in_column_0 gs ops e = rw e (made_in_column_0 gs)
