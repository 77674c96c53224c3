-- Lists of cells that grow in reading order.
use Rattle.std.proofs.Common.{◌≡◌, ℕ, ◌+◌, ◌-◌, ◌<◌, ◌≤◌, Bool, true, false, ◌&&◌, List, [], ◌∷◌, ◌++◌, length, map, refl, sym, ap, ◌∙◌, subst, arith, inl, inr, append_assoc, length-append}
use Rattle.std.specs.Prelude.{filter}
use Rattle.std.specs.List.{range_with_len, flat_map}
use Rattle.std.proofs.lemmas.List.{append-nil}
use Rattle.step_vars.proofs.Ranges.{map_more, map-one, filter_taken, filter_passed, flat_map_one, flat_map_more, filter_both}
use Rattle.step_vars.specs.declared.cells.Cell.{Cell}
use Rattle.step_vars.specs.Lists.{cell}
use Rattle.step_vars.specs.Tables.{IsBefore, AreBefore}

later_col : (row col later : ℕ) (it : Cell) → col ≤ later → IsBefore row col it → IsBefore row later it
later_col row col later it h (inl r) = inl r
later_col row col later it h (inr both) = let below : it.col < later = omega (arith, both.1) in inr (both.0, below)

later_row : (row col : ℕ) (it : Cell) → IsBefore row col it → IsBefore (row + 1) 0 it
later_row row col it (inl r) = let below : it.row < row + 1 = omega arith in inl below
later_row row col it (inr both) = let below : it.row < row + 1 = omega (arith, both.0) in inl below

pub before_later : (row col later : ℕ) (cells : List Cell) → col ≤ later → AreBefore row col cells → AreBefore row later cells
before_later row col later [] h all = tt
before_later row col later (it ∷ cells) h all = (later_col row col later it h all.0, before_later row col later cells h all.1)

pub before_row : (row col : ℕ) (cells : List Cell) → AreBefore row col cells → AreBefore (row + 1) 0 cells
before_row row col [] all = tt
before_row row col (it ∷ cells) all = (later_row row col it all.0, before_row row col cells all.1)

pub before_more : (row col : ℕ) (cells : List Cell) → AreBefore row col cells → AreBefore row (col + 1) (cells ++ cell row col ∷ [])
before_more row col [] all = let below : col < col + 1 = omega arith in (inr (refl, below), tt)
before_more row col (it ∷ cells) all =
    let more : col ≤ col + 1 = omega arith in
    (later_col row col (col + 1) it more all.0, before_more row col cells all.1)

pub before_more_row : (row col : ℕ) (cells : List Cell) → AreBefore row col cells → AreBefore (row + 1) 0 (cells ++ cell row col ∷ [])
before_more_row row col cells all = before_row row (col + 1) (cells ++ cell row col ∷ []) (before_more row col cells all)

pub before_at : (row col : ℕ) (cells more : List Cell) → more ≡ cells ++ cell row col ∷ [] → AreBefore row col cells → AreBefore row (col + 1) more
before_at row col cells more e all = let P : List Cell → Type 0 = λ xs. AreBefore row (col + 1) xs in subst P (sym e) (before_more row col cells all)

pub before_at_row : (row col : ℕ) (cells more : List Cell) → more ≡ cells ++ cell row col ∷ [] → AreBefore row col cells → AreBefore (row + 1) 0 more
before_at_row row col cells more e all = before_row row (col + 1) more (before_at row col cells more e all)

pub longer : {X : Type 0} (xs more : List X) (x : X) → more ≡ xs ++ x ∷ [] → length more ≡ length xs + 1
longer xs more x e = ap length e ∙ length-append xs (x ∷ [])

-- what was added so far
pub none_yet : {X : Type 0} (f : ℕ → X) (old : List X) (a : ℕ) → old ≡ old ++ map f (range_with_len a (a - a))
none_yet f old a = let e : a - a ≡ 0 = omega arith in rw e (sym (append-nil old))

pub one_yet : {X : Type 0} (f : ℕ → X) (old now more : List X) (a k : ℕ) → a ≤ k → now ≡ old ++ map f (range_with_len a (k - a)) → more ≡ now ++ f k ∷ [] → more ≡ old ++ map f (range_with_len a (k + 1 - a))
one_yet f old now more a k h e step =
    let n : k + 1 - a ≡ k - a + 1 = omega arith in
    let at_k : a + (k - a) ≡ k = omega arith in
    step ∙ ap (λ xs. xs ++ f k ∷ []) e ∙ append_assoc old (map f (range_with_len a (k - a))) (f k ∷ [])
    ∙ ap (λ xs. old ++ xs) (sym (rw n (map_more f a (k - a) ∙ ap (λ j. map f (range_with_len a (k - a)) ++ f j ∷ []) at_k)))

pub one_passes : {X : Type 0} (f : ℕ → X) (p : ℕ → Bool) (old now more : List X) (k : ℕ) → p k ≡ true → now ≡ old ++ map f (filter p (range_with_len 0 k)) → more ≡ now ++ f k ∷ [] → more ≡ old ++ map f (filter p (range_with_len 0 (k + 1)))
one_passes f p old now more k h e step =
    step ∙ ap (λ xs. xs ++ f k ∷ []) e ∙ append_assoc old (map f (filter p (range_with_len 0 k))) (f k ∷ [])
    ∙ ap (λ xs. old ++ xs) (sym (ap (map f) (filter_taken p k h) ∙ map-one f (filter p (range_with_len 0 k)) k))

pub one_fails : {X : Type 0} (f : ℕ → X) (p : ℕ → Bool) (old now : List X) (k : ℕ) → p k ≡ false → now ≡ old ++ map f (filter p (range_with_len 0 k)) → now ≡ old ++ map f (filter p (range_with_len 0 (k + 1)))
one_fails f p old now k h e = e ∙ ap (λ xs. old ++ map f xs) (sym (filter_passed p k h))

pub part_passes : {X : Type 0} (f : ℕ → List X) (p : ℕ → Bool) (now more : List X) (k : ℕ) → p k ≡ true → now ≡ flat_map f (filter p (range_with_len 0 k)) → more ≡ now ++ f k → more ≡ flat_map f (filter p (range_with_len 0 (k + 1)))
part_passes f p now more k h e step =
    step ∙ ap (λ xs. xs ++ f k) e ∙ sym (ap (flat_map f) (filter_taken p k h) ∙ flat_map_one f (filter p (range_with_len 0 k)) k)

pub part_fails : {X : Type 0} (f : ℕ → List X) (p : ℕ → Bool) (now : List X) (k : ℕ) → p k ≡ false → now ≡ flat_map f (filter p (range_with_len 0 k)) → now ≡ flat_map f (filter p (range_with_len 0 (k + 1)))
part_fails f p now k h e = e ∙ ap (flat_map f) (sym (filter_passed p k h))

pub part_more : {X : Type 0} (f : ℕ → List X) (now more : List X) (k : ℕ) → now ≡ flat_map f (range_with_len 0 k) → more ≡ now ++ f k → more ≡ flat_map f (range_with_len 0 (k + 1))
part_more f now more k e step = step ∙ ap (λ xs. xs ++ f k) e ∙ sym (flat_map_more f k)

-- all numbers were tested for both
pub all_tested : {X : Type 0} (f : ℕ → X) (p q : ℕ → Bool) (old now : List X) (k n : ℕ) → k ≡ n → now ≡ old ++ map f (filter (λ h. p h && q h) (range_with_len 0 k)) → now ≡ old ++ map f (filter q (filter p (range_with_len 0 n)))
all_tested f p q old now k n same e =
    e ∙ ap (λ j. old ++ map f (filter (λ h. p h && q h) (range_with_len 0 j))) same
    ∙ ap (λ xs. old ++ map f xs) (sym (filter_both p q (range_with_len 0 n)))
