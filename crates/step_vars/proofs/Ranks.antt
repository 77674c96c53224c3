-- The places of cells in a list.
use Rattle.std.proofs.Common.{◌≡◌, ◌≢◌, ℕ, ◌+◌, ◌*◌, ◌<◌, ◌≤◌, ◌⊎◌, Bool, true, false, cond, ◌&&◌, Option, Some, None, List, [], ◌∷◌, ◌++◌, length, set, zero, suc, refl, sym, ap, ◌∙◌, arith, inl, inr, eqb, add-zero, zero-add, subst, length-set, get_or-set_same, get_or-set_other}
use Rattle.std.specs.Prelude.{slice_get, slice_index_or, replicate}
use Rattle.std.specs.List.{position_from, AllByRecursion}
use Rattle.std.proofs.Math.Nat.{mul-le-mul_right}
use Rattle.std.proofs.lemmas.List.{length-replicate, get_or-replicate}
use Rattle.std.proofs.lemmas.Bool.{cases_lt, ne_eqb, eq-eqb}
use Rattle.step_vars.specs.declared.cells.Cell.{Cell}
use Rattle.step_vars.specs.Lists.{cell}
use Rattle.step_vars.specs.Numbering.{rank, is_cell}
use Rattle.step_vars.specs.Tables.{IsBefore, AreBefore, IsWithinGrid, HaveOwnPlaces, AreRanks}

and_false : (b : Bool) → (b && false) ≡ false
and_false true = refl
and_false false = refl

pub is_itself : (row col : ℕ) → is_cell row col (cell row col) ≡ true
is_itself row col = rw (eq-eqb row row refl) (eq-eqb col col refl)

other_row : (row col : ℕ) (it : Cell) → it.row ≢ row → is_cell row col it ≡ false
other_row row col it h = rw (ne_eqb it.row row h) refl

other_col : (row col : ℕ) (it : Cell) → it.col ≢ col → is_cell row col it ≡ false
other_col row col it h = rw (ne_eqb it.col col h) (and_false (eqb it.row row))

before_is_other : (row col : ℕ) (it : Cell) → IsBefore row col it → is_cell row col it ≡ false
before_is_other row col it (inl h) = other_row row col it (λ e. absurd (omega arith))
before_is_other row col it (inr h) = other_col row col it (λ e. absurd (omega (arith, h.1)))

before_is_other' : (row col : ℕ) (it : Cell) → IsBefore row col it → is_cell it.row it.col (cell row col) ≡ false
before_is_other' row col it (inl h) = other_row it.row it.col (cell row col) (λ e. absurd (omega arith))
before_is_other' row col it (inr h) = other_col it.row it.col (cell row col) (λ e. absurd (omega (arith, h.1)))

-- a cell after all others is found at none of them
pub place_none : (row col i : ℕ) (cells : List Cell) → AreBefore row col cells → position_from (is_cell row col) i cells ≡ None
place_none row col i [] h = refl
place_none row col i (it ∷ cells) h = rw (before_is_other row col it h.0) (place_none row col (i + 1) cells h.1)

-- and at the end where it is added
pub place_same : (row col i : ℕ) (cells : List Cell) → AreBefore row col cells → position_from (is_cell row col) i (cells ++ cell row col ∷ []) ≡ Some (i + length cells)
place_same row col i [] h = rw (is_itself row col) (ap Some (sym (add-zero i)))
place_same row col i (it ∷ cells) h =
    let n : i + 1 + length cells ≡ i + suc (length cells) = omega arith in
    rw (before_is_other row col it h.0) (place_same row col (i + 1) cells h.1 ∙ ap Some n)

-- another cell is found where it was
pub place_other : (row col i : ℕ) (cells : List Cell) (it : Cell) → is_cell row col it ≡ false → position_from (is_cell row col) i (cells ++ it ∷ []) ≡ position_from (is_cell row col) i cells
place_other row col i [] it h = rw h refl
place_other row col i (c ∷ cells) it h = ap (λ r. cond (is_cell row col c) (Some i) r) (place_other row col (i + 1) cells it h)

HaveOwnFrom : ℕ → List Cell → Type 0
HaveOwnFrom i cells = (place : ℕ) (it : Cell) → slice_get cells place ≡ Some it → position_from (is_cell it.row it.col) i cells ≡ Some (i + place)

found_before : (i place : ℕ) (b : Bool) (rest : Option ℕ) → cond b (Some i) rest ≡ Some (i + suc place) → (b ≡ false) × (rest ≡ Some (i + 1 + place))
found_before i place true rest e = let n : i ≡ i + suc place = cc in absurd (omega arith)
found_before i place false rest e =
    let n : i + suc place ≡ i + 1 + place = omega arith in
    (refl, e ∙ ap Some n)

own_rest : (i : ℕ) (c : Cell) (cells : List Cell) → HaveOwnFrom i (c ∷ cells) → HaveOwnFrom (i + 1) cells
unfolding HaveOwnFrom
own_rest i c cells own place it e = (found_before i place (is_cell it.row it.col c) (position_from (is_cell it.row it.col) (i + 1) cells) (own (suc place) it e)).1

own_first : (i : ℕ) (c : Cell) (cells : List Cell) → HaveOwnFrom i (c ∷ cells) → (place : ℕ) (it : Cell) → slice_get cells place ≡ Some it → is_cell it.row it.col c ≡ false
unfolding HaveOwnFrom
own_first i c cells own place it e = (found_before i place (is_cell it.row it.col c) (position_from (is_cell it.row it.col) (i + 1) cells) (own (suc place) it e)).0

-- a member of the longer list is the new one or was a member
was_or_is : (cells : List Cell) (x : Cell) (place : ℕ) (it : Cell) → slice_get (cells ++ x ∷ []) place ≡ Some it → (slice_get cells place ≡ Some it) ⊎ (x ≡ it)
was_or_is [] x zero it e = let same : x ≡ it = cc in inr same
was_or_is [] x (suc place) it e = absurd (cc)
was_or_is (c ∷ cells) x zero it e = inl e
was_or_is (c ∷ cells) x (suc place) it e = was_or_is cells x place it e

own_more_from : (i row col : ℕ) (cells : List Cell) → HaveOwnFrom i cells → AreBefore row col cells → HaveOwnFrom i (cells ++ cell row col ∷ [])
unfolding HaveOwnFrom
own_more_from i row col [] own before zero it e =
    let same : cell row col ≡ it = cc in
    let P : Cell → Type 0 = λ x. position_from (is_cell x.row x.col) i (cell row col ∷ []) ≡ Some (i + zero) in
    subst P same (rw (is_itself row col) (ap Some (sym (add-zero i))))
own_more_from i row col [] own before (suc place) it e = absurd (cc)
own_more_from i row col (c ∷ cells) own before zero it e =
    let same : c ≡ it = cc in
    let P : Cell → Type 0 = λ x. position_from (is_cell x.row x.col) i (c ∷ cells ++ cell row col ∷ []) ≡ Some (i + zero) in
    subst P same (rw (is_itself c.row c.col) (ap Some (sym (add-zero i))))
own_more_from i row col (c ∷ cells) own before (suc place) it e =
    let rest = own_more_from (i + 1) row col cells (own_rest i c cells own) before.1 place it e in
    let n : i + 1 + place ≡ i + suc place = omega arith in
    let P : Cell → Type 0 = λ x. is_cell x.row x.col c ≡ false in
    let other : is_cell it.row it.col c ≡ false = elim (was_or_is cells (cell row col) place it e) [
      | inl was ↦ own_first i c cells own place it was
      | inr is ↦ subst P is (before_is_other row col c before.0)
    ] in
    rw other (rest ∙ ap Some n)

own_is_from : (cells : List Cell) → HaveOwnPlaces cells → HaveOwnFrom 0 cells
unfolding HaveOwnFrom rank
own_is_from cells own place it e = own place it e ∙ ap Some (sym (zero-add place))

pub own_none : HaveOwnPlaces []
own_none place it e = absurd (cc)

pub own_more : (row col : ℕ) (cells : List Cell) → HaveOwnPlaces cells → AreBefore row col cells → HaveOwnPlaces (cells ++ cell row col ∷ [])
unfolding HaveOwnFrom rank
own_more row col cells own before place it e =
    own_more_from 0 row col cells (own_is_from cells own) before place it e ∙ ap Some (zero-add place)

pub rank_same : (row col : ℕ) (cells : List Cell) → AreBefore row col cells → rank (cells ++ cell row col ∷ []) row col ≡ Some (length cells)
unfolding rank
rank_same row col cells before = place_same row col 0 cells before ∙ ap Some (zero-add (length cells))

pub rank_other_row : (row col : ℕ) (cells : List Cell) (it : Cell) → it.row ≢ row → rank (cells ++ it ∷ []) row col ≡ rank cells row col
unfolding rank
rank_other_row row col cells it h = place_other row col 0 cells it (other_row row col it h)

pub rank_other_col : (row col : ℕ) (cells : List Cell) (it : Cell) → it.col ≢ col → rank (cells ++ it ∷ []) row col ≡ rank cells row col
unfolding rank
rank_other_col row col cells it h = place_other row col 0 cells it (other_col row col it h)

-- a cell outside the grid is none of its cells
outside : (rows cols row col i : ℕ) (cells : List Cell) → AllByRecursion (IsWithinGrid rows cols) cells → (rows ≤ row) ⊎ (cols ≤ col) → position_from (is_cell row col) i cells ≡ None
outside rows cols row col i [] within out = refl
outside rows cols row col i (it ∷ cells) within (inl h) = rw (other_row row col it (λ e. absurd (omega (arith, within.0.0)))) (outside rows cols row col (i + 1) cells within.1 (inl h))
outside rows cols row col i (it ∷ cells) within (inr h) = rw (other_col row col it (λ e. absurd (omega (arith, within.0.1)))) (outside rows cols row col (i + 1) cells within.1 (inr h))

pub rank_outside_rows : (rows cols row col : ℕ) (cells : List Cell) → AllByRecursion (IsWithinGrid rows cols) cells → rows ≤ row → rank cells row col ≡ None
unfolding rank
rank_outside_rows rows cols row col cells within h = outside rows cols row col 0 cells within (inl h)

pub rank_outside_cols : (rows cols row col : ℕ) (cells : List Cell) → AllByRecursion (IsWithinGrid rows cols) cells → cols ≤ col → rank cells row col ≡ None
unfolding rank
rank_outside_cols rows cols row col cells within h = outside rows cols row col 0 cells within (inr h)

pub within_more : (rows cols row col : ℕ) (cells : List Cell) → AllByRecursion (IsWithinGrid rows cols) cells → row < rows → col < cols → AllByRecursion (IsWithinGrid rows cols) (cells ++ cell row col ∷ [])
within_more rows cols row col [] all r c = ((r, c), tt)
within_more rows cols row col (it ∷ cells) all r c = (all.0, within_more rows cols row col cells all.1 r c)

-- places in the grid
pub place_below : (rows cols row col : ℕ) → row < rows → col < cols → row * cols + col < rows * cols
place_below rows cols row col r c =
    let whole : (row + 1) * cols ≤ rows * cols = mul-le-mul_right cols (omega arith) in
    omega (arith, whole)

lower_row : (cols a b c d : ℕ) → c < cols → a < b → a * cols + c ≡ b * cols + d → ⊥
lower_row cols a b c d h below e =
    let whole : (a + 1) * cols ≤ b * cols = mul-le-mul_right cols (omega arith) in
    omega (arith, whole)

pub places_apart_row : (cols a b c d : ℕ) → c < cols → d < cols → a ≢ b → a * cols + c ≢ b * cols + d
places_apart_row cols a b c d hc hd apart e =
    elim (cases_lt a b) [
      | inl h ↦ lower_row cols a b c d hc h e
      | inr h ↦ elim (cases_lt b a) [ inl k ↦ lower_row cols b a d c hd k (sym e) | inr k ↦ apart (omega arith) ]
    ]

same_or_not : (a b : ℕ) → (a ≡ b) ⊎ (a ≢ b)
same_or_not a b = elim (cases_lt a b) [
  | inl h ↦ inr (λ e. absurd (omega arith))
  | inr h ↦ elim (cases_lt b a) [ inl k ↦ inr (λ e. absurd (omega arith)) | inr k ↦ inl (omega arith) ]
]

same_column : (cols a b c d : ℕ) → a ≡ b → a * cols + c ≡ b * cols + d → c ≡ d
same_column cols a b c d same e =
    let rows : a * cols ≡ b * cols = ap (λ x. x * cols) same in
    omega arith

each_more : (rows cols row col : ℕ) (cells : List Cell) (ranks : List (Option ℕ)) → AreRanks rows cols cells ranks → AreBefore row col cells
    → row < rows → col < cols → (r c : ℕ) → r < rows → c < cols
    → slice_index_or (set ranks (row * cols + col) (Some (length cells))) (r * cols + c) None ≡ rank (cells ++ cell row col ∷ []) r c
each_more rows cols row col cells ranks are before hr hc r c r_in c_in =
    elim (same_or_not r row) [
      | inr apart ↦
          let place : r * cols + c ≢ row * cols + col = places_apart_row cols r row c col c_in hc apart in
          get_or-set_other ranks (row * cols + col) (r * cols + c) (Some (length cells)) None place
          ∙ are.each r c r_in c_in ∙ sym (rank_other_row r c cells (cell row col) (λ e. apart (sym e)))
      | inl same_row ↦ elim (same_or_not c col) [
        | inr apart ↦
            let place : r * cols + c ≢ row * cols + col = λ e. apart (same_column cols r row c col same_row e) in
            get_or-set_other ranks (row * cols + col) (r * cols + c) (Some (length cells)) None place
            ∙ are.each r c r_in c_in ∙ sym (rank_other_col r c cells (cell row col) (λ e. apart (sym e)))
        | inl same_col ↦
            let below : row * cols + col < length ranks = rw are.size (place_below rows cols row col hr hc) in
            let P : ℕ → ℕ → Type 0 = λ x y. slice_index_or (set ranks (row * cols + col) (Some (length cells))) (x * cols + y) None ≡ rank (cells ++ cell row col ∷ []) x y in
            rw (same_row, same_col) (get_or-set_same ranks (row * cols + col) (Some (length cells)) None below ∙ sym (rank_same row col cells before))
      ]
    ]

-- the table after one cell more
pub ranks_more : (rows cols row col : ℕ) (cells : List Cell) (ranks : List (Option ℕ)) → AreRanks rows cols cells ranks → AreBefore row col cells
    → row < rows → col < cols
    → AreRanks rows cols (cells ++ cell row col ∷ []) (set ranks (row * cols + col) (Some (length cells)))
ranks_more rows cols row col cells ranks are before hr hc = record {
  size = length-set ranks (row * cols + col) (Some (length cells)) ∙ are.size;
  each = λ r c r_in c_in. each_more rows cols row col cells ranks are before hr hc r c r_in c_in;
  own = own_more row col cells are.own before;
  within = within_more rows cols row col cells are.within hr hc;
}

-- the same with the parts of the code
pub ranks_pushed : (rows cols row col : ℕ) (cells more : List Cell) (ranks : List (Option ℕ)) (count : ℕ) → AreRanks rows cols cells ranks → AreBefore row col cells
    → row < rows → col < cols → more ≡ cells ++ cell row col ∷ [] → count ≡ length cells
    → AreRanks rows cols more (set ranks (row * cols + col) (Some count))
ranks_pushed rows cols row col cells more ranks count are before hr hc e n =
    let P : List Cell → ℕ → Type 0 = λ xs k. AreRanks rows cols xs (set ranks (row * cols + col) (Some k)) in
    rw (e, n) (ranks_more rows cols row col cells ranks are before hr hc)

pub ranks_none : (rows cols : ℕ) (ranks : List (Option ℕ)) → ranks ≡ replicate (rows * cols) None → AreRanks rows cols [] ranks
unfolding rank
ranks_none rows cols ranks e = record {
  size = ap length e ∙ length-replicate (rows * cols) None;
  each = λ row col hr hc. rw e (get_or-replicate (rows * cols) (row * cols + col) None None (place_below rows cols row col hr hc));
  own = own_none;
  within = tt;
}
