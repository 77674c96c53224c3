-- Two neighbours that change places.
use Rattle.std.proofs.Common.{◌≡◌, ◌≢◌, ℕ, zero, suc, ◌+◌, ◌<◌, Bool, true, false, not, cond, ◌&&◌, ◌||◌, List, [], ◌∷◌, length, Some, None, slice_get, slice_set, slice_index_or, arith, refl, sym, ap, subst, ◌∙◌, inl, inr}
use Rattle.std.specs.Prelude.{IsTrue, Option, swap, ◌==◌, ◌⊎◌}
use Rattle.std.proofs.lemmas.Bool.{cases_eq, cases_order, false≢true, both_ways, and_from, and_parts, or_cases, or_left, or_right, or_parts, or_from, eqb-true, eq-eqb, ne_eqb}
use Rattle.std.proofs.lemmas.List.Sorted.{IsPermutation-swap}
use Rattle.qc_base.specs.declared.ids.Ion.{Ion}
use Rattle.step_vars.specs.Lists.{is_there, is_before}
use Rattle.step_facts.specs.Agreement.{AreDistinct}
use Rattle.step_facts.specs.OfSchedule.{is_ion, are_neighbours}
use Rattle.step_facts.specs.ToSchedule.{index_of_pair}
use Rattle.step_facts.proofs.IonLists.{there-permutation, there-here, there-other, there-later, distinct-permutation, before-here, before-other, before-later, before-there_second}

-- ---- the two ions at an index and the next

ion_there : (i k : ℕ) (xs : List Ion) → IsTrue (is_ion i (slice_get xs k)) → IsTrue (is_there i xs)
ion_there i k [] here = absurd (false≢true here)
ion_there i zero (x ∷ xs) here = or_left (x.0 == i) (is_there i xs) here
ion_there i (suc k) (x ∷ xs) here = there-later i x xs (ion_there i k xs here)

ion_within : (i k : ℕ) (xs : List Ion) → IsTrue (is_ion i (slice_get xs k)) → k < length xs
ion_within i k [] here = absurd (false≢true here)
ion_within i zero (x ∷ xs) here = omega arith
ion_within i (suc k) (x ∷ xs) here = omega (arith, ion_within i k xs here)

ion_same : (i j : ℕ) (ion : Option Ion) → IsTrue (is_ion i ion) → IsTrue (is_ion j ion) → i ≡ j
ion_same i j None is_i is_j = absurd (false≢true is_i)
ion_same i j (Some x) is_i is_j = sym (eqb-true x.0 i is_i) ∙ eqb-true x.0 j is_j

-- the one is at the index, and the other at the next
record ArePair (i j k : ℕ) (xs : List Ion) : Type 0 where
  first : IsTrue (is_ion i (slice_get xs k))
  second : IsTrue (is_ion j (slice_get xs (k + 1)))

pair_in_order : (i j k : ℕ) (xs : List Ion) → IsTrue (are_neighbours i j k xs) → ArePair i j k xs ⊎ ArePair j i k xs
pair_in_order i j k xs beside = elim (or_cases (is_ion i (slice_get xs k) && is_ion j (slice_get xs (k + 1))) (is_ion j (slice_get xs k) && is_ion i (slice_get xs (k + 1))) beside) [
  | inl h ↦ let parts = and_parts (is_ion i (slice_get xs k)) (is_ion j (slice_get xs (k + 1))) h in inl record { first = parts.0; second = parts.1 }
  | inr h ↦ let parts = and_parts (is_ion j (slice_get xs k)) (is_ion i (slice_get xs (k + 1))) h in inr record { first = parts.0; second = parts.1 }
]

neighbours-later : (i j k : ℕ) (x : Ion) (xs : List Ion) → are_neighbours i j (suc k) (x ∷ xs) ≡ are_neighbours i j k xs
neighbours-later i j k x xs = let next : suc k + 1 ≡ suc (k + 1) = omega arith in rw next

pub neighbours_within : (i j k : ℕ) (xs : List Ion) → IsTrue (are_neighbours i j k xs) → k + 1 < length xs
neighbours_within i j k xs beside = elim (pair_in_order i j k xs beside) [
  | inl pair ↦ ion_within j (k + 1) xs pair.second
  | inr pair ↦ ion_within i (k + 1) xs pair.second
]

pub neighbours_there : (i j k : ℕ) (xs : List Ion) → IsTrue (are_neighbours i j k xs) → IsTrue (is_there i xs) × IsTrue (is_there j xs)
neighbours_there i j k xs beside = elim (pair_in_order i j k xs beside) [
  | inl pair ↦ (ion_there i k xs pair.first, ion_there j (k + 1) xs pair.second)
  | inr pair ↦ (ion_there i (k + 1) xs pair.second, ion_there j k xs pair.first)
]

-- the two first ions of a list
record AreFirst (i j : ℕ) (x y : Ion) : Type 0 where
  first : x.0 ≡ i
  second : y.0 ≡ j

first_two : (i j : ℕ) (x y : Ion) (xs : List Ion) → IsTrue (are_neighbours i j 0 (x ∷ y ∷ xs)) → AreFirst i j x y ⊎ AreFirst j i x y
first_two i j x y xs beside = elim (pair_in_order i j 0 (x ∷ y ∷ xs) beside) [
  | inl pair ↦ inl record { first = eqb-true x.0 i pair.first; second = eqb-true y.0 j pair.second }
  | inr pair ↦ inr record { first = eqb-true x.0 j pair.first; second = eqb-true y.0 i pair.second }
]

first_beside : (i j : ℕ) (x y : Ion) (xs : List Ion) → x.0 ≡ i → y.0 ≡ j → IsTrue (are_neighbours i j 0 (x ∷ y ∷ xs))
first_beside i j x y xs is_i is_j =
    or_left ((x.0 == i) && (y.0 == j)) ((x.0 == j) && (y.0 == i)) (and_from (x.0 == i) (y.0 == j) (eq-eqb x.0 i is_i) (eq-eqb y.0 j is_j))

or_turned : (a b : Bool) → (a || b) ≡ (b || a)
or_turned true true = refl
or_turned true false = refl
or_turned false true = refl
or_turned false false = refl

pub neighbours_turned : (i j k : ℕ) (xs : List Ion) → are_neighbours i j k xs ≡ are_neighbours j i k xs
neighbours_turned i j k xs =
    or_turned (is_ion i (slice_get xs k) && is_ion j (slice_get xs (k + 1))) (is_ion j (slice_get xs k) && is_ion i (slice_get xs (k + 1)))

-- an ion of the rest of the list is not the first one
differs_from_first : (i : ℕ) (x : Ion) (xs : List Ion) → AreDistinct (x ∷ xs) → IsTrue (is_there i xs) → x.0 ≢ i
differs_from_first i x xs distinct there e = both_ways (is_there i xs) (subst (λ k. is_there k xs ≡ false) e distinct.0) there

-- ---- the list after the swap

abbrev turned : ℕ → List Ion → List Ion
turned k [] = []
turned zero (x ∷ []) = x ∷ []
turned zero (x ∷ y ∷ xs) = y ∷ x ∷ xs
turned (suc k) (x ∷ xs) = x ∷ turned k xs

set-turned : (k : ℕ) (xs : List Ion) (d : Ion) → suc k < length xs
    → slice_set (slice_set xs k (slice_index_or xs (suc k) d)) (suc k) (slice_index_or xs k d) ≡ turned k xs
set-turned k [] d within = absurd (omega arith)
set-turned zero (x ∷ []) d within = absurd (omega arith)
set-turned zero (x ∷ y ∷ xs) d within = refl
set-turned (suc k) (x ∷ xs) d within = ap (λ l. x ∷ l) (set-turned k xs d (omega arith))

swap-turned : (k : ℕ) (xs : List Ion) → k + 1 < length xs → swap xs k (k + 1) ≡ turned k xs
swap-turned k [] within = refl
swap-turned k (x ∷ xs) within = let next : k + 1 ≡ suc k = omega arith in rw next (set-turned k (x ∷ xs) x (omega arith))

-- ---- which are there

pub there-swap : (i k : ℕ) (xs : List Ion) → k + 1 < length xs → is_there i (swap xs k (k + 1)) ≡ is_there i xs
there-swap i k xs within = there-permutation i xs (swap xs k (k + 1)) (IsPermutation-swap xs (swap xs k (k + 1)) k (k + 1) (omega arith) within refl)

pub distinct-swap : (k : ℕ) (xs : List Ion) → k + 1 < length xs → AreDistinct xs → AreDistinct (swap xs k (k + 1))
distinct-swap k xs within distinct = distinct-permutation xs (swap xs k (k + 1)) (IsPermutation-swap xs (swap xs k (k + 1)) k (k + 1) (omega arith) within refl) distinct

-- ---- which are before which

-- the first two, i and j, in the other order
before-first_two : (i j : ℕ) (x y : Ion) (xs : List Ion) → AreDistinct (x ∷ y ∷ xs) → i ≢ j → x.0 ≡ i → y.0 ≡ j
    → (is_before i j (x ∷ y ∷ xs) ≡ true) × (is_before i j (y ∷ x ∷ xs) ≡ false)
before-first_two i j x y xs distinct differ is_i is_j = (
  before-here i j x (y ∷ xs) is_i ∙ there-here j y xs is_j,
  before-other i j y (x ∷ xs) (λ e. differ (sym e ∙ is_j)) ∙ before-here i j x xs is_i ∙ subst (λ k. is_there k xs ≡ false) is_j distinct.1.0,
)

-- the first two, j and i, in the other order
before-first_turned : (i j : ℕ) (x y : Ion) (xs : List Ion) → AreDistinct (x ∷ y ∷ xs) → i ≢ j → x.0 ≡ j → y.0 ≡ i
    → (is_before i j (x ∷ y ∷ xs) ≡ false) × (is_before i j (y ∷ x ∷ xs) ≡ true)
before-first_turned i j x y xs distinct differ is_j is_i =
    let later : is_there x.0 xs ≡ false = (or_parts (y.0 == x.0) (is_there x.0 xs) distinct.0).1 in (
      before-other i j x (y ∷ xs) (λ e. differ (sym e ∙ is_j)) ∙ before-here i j y xs is_i ∙ subst (λ k. is_there k xs ≡ false) is_j later,
      before-here i j y (x ∷ xs) is_i ∙ there-here j x xs is_j,
    )

before-turned_pair : (i j k : ℕ) (xs : List Ion) → AreDistinct xs → i ≢ j → IsTrue (are_neighbours i j k xs) → is_before i j (turned k xs) ≡ not (is_before i j xs)
before-turned_pair i j k [] distinct differ beside = absurd (false≢true beside)
before-turned_pair i j zero (x ∷ []) distinct differ beside = let within = neighbours_within i j 0 (x ∷ []) beside in absurd (omega arith)
before-turned_pair i j zero (x ∷ y ∷ xs) distinct differ beside = elim (first_two i j x y xs beside) [
  | inl pair ↦ let orders = before-first_two i j x y xs distinct differ pair.first pair.second in orders.1 ∙ sym (ap not orders.0)
  | inr pair ↦ let orders = before-first_turned i j x y xs distinct differ pair.first pair.second in orders.1 ∙ sym (ap not orders.0)
]
before-turned_pair i j (suc k) (x ∷ xs) distinct differ beside =
    let later : IsTrue (are_neighbours i j k xs) = sym (neighbours-later i j k x xs) ∙ beside in
    let other : x.0 ≢ i = differs_from_first i x xs distinct (neighbours_there i j k xs later).0 in
    before-other i j x (turned k xs) other ∙ before-turned_pair i j k xs distinct.1 differ later ∙ sym (ap not (before-other i j x xs other))

-- the order of the two turns
pub before-swap_pair : (i j k : ℕ) (xs : List Ion) → AreDistinct xs → i ≢ j → IsTrue (are_neighbours i j k xs)
    → is_before i j (swap xs k (k + 1)) ≡ not (is_before i j xs)
before-swap_pair i j k xs distinct differ beside =
    ap (is_before i j) (swap-turned k xs (neighbours_within i j k xs beside)) ∙ before-turned_pair i j k xs distinct differ beside

not_first_two : (i j : ℕ) (x y : Ion) (xs : List Ion) → are_neighbours i j 0 (x ∷ y ∷ xs) ≡ false → x.0 ≡ i → y.0 ≢ j
not_first_two i j x y xs apart is_i is_j = both_ways (are_neighbours i j 0 (x ∷ y ∷ xs)) apart (first_beside i j x y xs is_i is_j)

before-first_other : (i j : ℕ) (x y : Ion) (xs : List Ion) → AreDistinct (x ∷ y ∷ xs) → are_neighbours i j 0 (x ∷ y ∷ xs) ≡ false
    → is_before i j (y ∷ x ∷ xs) ≡ is_before i j (x ∷ y ∷ xs)
before-first_other i j x y xs distinct apart = elim (cases_eq x.0 i) [
  | inl is_i ↦
      let not_i : y.0 ≢ i = λ e. differs_from_first i x (y ∷ xs) distinct (there-here i y xs e) is_i in
      before-other i j y (x ∷ xs) not_i ∙ before-here i j x xs is_i
      ∙ sym (before-here i j x (y ∷ xs) is_i ∙ there-other j y xs (not_first_two i j x y xs apart is_i))
  | inr not_i ↦ elim (cases_eq y.0 i) [
    | inl is_i ↦
        let not_j : x.0 ≢ j = λ e. not_first_two j i x y xs (sym (neighbours_turned i j 0 (x ∷ y ∷ xs)) ∙ apart) e is_i in
        before-here i j y (x ∷ xs) is_i ∙ there-other j x xs not_j ∙ sym (before-other i j x (y ∷ xs) not_i ∙ before-here i j y xs is_i)
    | inr neither ↦
        before-other i j y (x ∷ xs) neither ∙ before-other i j x xs not_i ∙ sym (before-other i j x (y ∷ xs) not_i ∙ before-other i j y xs neither)
  ]
]

before-turned_other : (i j k : ℕ) (xs : List Ion) → AreDistinct xs → k + 1 < length xs → are_neighbours i j k xs ≡ false → is_before i j (turned k xs) ≡ is_before i j xs
before-turned_other i j k [] distinct within apart = refl
before-turned_other i j zero (x ∷ []) distinct within apart = refl
before-turned_other i j zero (x ∷ y ∷ xs) distinct within apart = before-first_other i j x y xs distinct apart
before-turned_other i j (suc k) (x ∷ xs) distinct within apart = elim (cases_eq x.0 i) [
  | inl e ↦
      let within_later : k + 1 < length xs = omega arith in
      before-here i j x (turned k xs) e ∙ sym (ap (is_there j) (swap-turned k xs within_later)) ∙ there-swap j k xs within_later ∙ sym (before-here i j x xs e)
  | inr other ↦
      before-other i j x (turned k xs) other
      ∙ before-turned_other i j k xs distinct.1 (omega arith) (sym (neighbours-later i j k x xs) ∙ apart) ∙ sym (before-other i j x xs other)
]

-- that of all others stays
pub before-swap_other : (i j k : ℕ) (xs : List Ion) → AreDistinct xs → i ≢ j → k + 1 < length xs → are_neighbours i j k xs ≡ false
    → is_before i j (swap xs k (k + 1)) ≡ is_before i j xs
before-swap_other i j k xs distinct differ within apart = ap (is_before i j) (swap-turned k xs within) ∙ before-turned_other i j k xs distinct within apart

-- ---- neighbours

pub none_between : (i j m k : ℕ) (xs : List Ion) → AreDistinct xs → m ≢ i → m ≢ j → IsTrue (are_neighbours i j k xs)
    → IsTrue (is_before i m xs) → IsTrue (is_before m j xs) → ⊥
none_between i j m k [] distinct not_i not_j beside before after = absurd (false≢true beside)
none_between i j m zero (x ∷ []) distinct not_i not_j beside before after = let within = neighbours_within i j 0 (x ∷ []) beside in omega arith
none_between i j m zero (x ∷ y ∷ xs) distinct not_i not_j beside before after = elim (first_two i j x y xs beside) [
  | inl pair ↦
      let not_x : x.0 ≢ m = λ e. not_i (sym e ∙ pair.first) in
      let not_y : y.0 ≢ m = λ e. not_j (sym e ∙ pair.second) in
      let later : IsTrue (is_before m j xs) = sym (before-other m j x (y ∷ xs) not_x ∙ before-other m j y xs not_y) ∙ after in
      differs_from_first j y xs distinct.1 (before-there_second m j xs later) pair.second
  | inr pair ↦
      let not_x : x.0 ≢ m = λ e. not_j (sym e ∙ pair.first) in
      let later : IsTrue (is_before m j (y ∷ xs)) = sym (before-other m j x (y ∷ xs) not_x) ∙ after in
      differs_from_first j x (y ∷ xs) distinct (before-there_second m j (y ∷ xs) later) pair.first
]
none_between i j m (suc k) (x ∷ xs) distinct not_i not_j beside before after =
    let later : IsTrue (are_neighbours i j k xs) = sym (neighbours-later i j k x xs) ∙ beside in
    let other : x.0 ≢ i = differs_from_first i x xs distinct (neighbours_there i j k xs later).0 in
    let before_later : IsTrue (is_before i m xs) = sym (before-other i m x xs other) ∙ before in
    let not_m : x.0 ≢ m = differs_from_first m x xs distinct (before-there_second i m xs before_later) in
    none_between i j m k xs distinct.1 not_i not_j later before_later (sym (before-other m j x xs not_m) ∙ after)

-- of two pairs of neighbours at one index, both ascending, the one is the other
pub same_neighbours : (i j m n k : ℕ) (xs : List Ion) → i < j → m < n → IsTrue (are_neighbours i j k xs) → IsTrue (are_neighbours m n k xs) → (i ≡ m) × (j ≡ n)
same_neighbours i j m n k xs up_i up_m beside_i beside_m = elim (pair_in_order i j k xs beside_i) [
  | inl pair ↦ elim (pair_in_order m n k xs beside_m) [
    | inl other ↦ (ion_same i m (slice_get xs k) pair.first other.first, ion_same j n (slice_get xs (k + 1)) pair.second other.second)
    | inr other ↦
        let a = ion_same i n (slice_get xs k) pair.first other.first in
        let b = ion_same j m (slice_get xs (k + 1)) pair.second other.second in
        absurd (omega arith)
  ]
  | inr pair ↦ elim (pair_in_order m n k xs beside_m) [
    | inl other ↦
        let a = ion_same j m (slice_get xs k) pair.first other.first in
        let b = ion_same i n (slice_get xs (k + 1)) pair.second other.second in
        absurd (omega arith)
    | inr other ↦ (ion_same i m (slice_get xs (k + 1)) pair.second other.second, ion_same j n (slice_get xs k) pair.first other.first)
  ]
]

-- some pair is at each index but the last
pub some_neighbours : (k : ℕ) (xs : List Ion) → AreDistinct xs → k + 1 < length xs → (i : ℕ) × (j : ℕ) × (i < j) × IsTrue (are_neighbours i j k xs)
some_neighbours k [] distinct within = absurd (omega arith)
some_neighbours zero (x ∷ []) distinct within = absurd (omega arith)
some_neighbours zero (x ∷ y ∷ xs) distinct within = elim (cases_order x.0 y.0) [
  | inl same ↦ absurd (differs_from_first x.0 x (y ∷ xs) distinct (there-here x.0 y xs (sym same)) refl)
  | inr apart ↦ elim apart [
    | inl up ↦ (x.0, y.0, up, first_beside x.0 y.0 x y xs refl refl)
    | inr down ↦ (y.0, x.0, down, neighbours_turned y.0 x.0 0 (x ∷ y ∷ xs) ∙ first_beside x.0 y.0 x y xs refl refl)
  ]
]
some_neighbours (suc k) (x ∷ xs) distinct within =
    let it = some_neighbours k xs distinct.1 (omega arith) in
    (it.0, it.1, it.2, neighbours-later it.0 it.1 k x xs ∙ it.3)

index_first : (i j : ℕ) (x : Ion) (xs : List Ion) → ((x.0 == i) || (x.0 == j)) ≡ true → index_of_pair i j (x ∷ xs) ≡ 0
index_first i j x xs here = ap (λ b. cond b 0 (index_of_pair i j xs + 1)) here

index_later : (i j : ℕ) (x : Ion) (xs : List Ion) → x.0 ≢ i → x.0 ≢ j → index_of_pair i j (x ∷ xs) ≡ suc (index_of_pair i j xs)
index_later i j x xs not_i not_j =
    let next : index_of_pair i j xs + 1 ≡ suc (index_of_pair i j xs) = omega arith in
    ap (λ b. cond b 0 (index_of_pair i j xs + 1)) (or_from (x.0 == i) (x.0 == j) (ne_eqb x.0 i not_i) (ne_eqb x.0 j not_j)) ∙ next

-- where the first ion is one of the two, the other is the next
found_first : (i j : ℕ) (x : Ion) (xs : List Ion) → AreDistinct (x ∷ xs) → x.0 ≡ i → IsTrue (is_there j xs)
    → ((m : ℕ) → m ≢ i → m ≢ j → IsTrue (is_there m (x ∷ xs)) → IsTrue (is_before i m (x ∷ xs)) → IsTrue (is_before m j (x ∷ xs)) → ⊥)
    → IsTrue (are_neighbours i j 0 (x ∷ xs)) × (1 < length (x ∷ xs))
found_first i j x [] distinct is_i there apart = absurd (false≢true there)
found_first i j x (y ∷ xs) distinct is_i there apart = elim (cases_eq y.0 j) [
  | inl is_j ↦ (first_beside i j x y xs is_i is_j, omega arith)
  | inr not_j ↦
      let other : x.0 ≢ y.0 = differs_from_first y.0 x (y ∷ xs) distinct (there-here y.0 y xs refl) in
      absurd (apart y.0 (λ e. other (is_i ∙ sym e)) not_j (there-later y.0 x (y ∷ xs) (there-here y.0 y xs refl))
      (before-here i y.0 x (y ∷ xs) is_i ∙ there-here y.0 y xs refl)
      (before-other y.0 j x (y ∷ xs) other ∙ before-here y.0 j y xs refl ∙ sym (there-other j y xs not_j) ∙ there))
]

-- two ions with none between them are neighbours at the index of the first of them
pub neighbours_found : (i j : ℕ) (xs : List Ion) → AreDistinct xs → i ≢ j → IsTrue (is_there i xs) → IsTrue (is_there j xs)
    → ((m : ℕ) → m ≢ i → m ≢ j → IsTrue (is_there m xs) → ((IsTrue (is_before i m xs) × IsTrue (is_before m j xs)) → ⊥) × ((IsTrue (is_before j m xs) × IsTrue (is_before m i xs)) → ⊥))
    → IsTrue (are_neighbours i j (index_of_pair i j xs) xs) × (index_of_pair i j xs + 1 < length xs)
neighbours_found i j [] distinct differ there_i there_j apart = absurd (false≢true there_i)
neighbours_found i j (x ∷ xs) distinct differ there_i there_j apart = elim (cases_eq x.0 i) [
  | inl is_i ↦
      let found = found_first i j x xs distinct is_i (sym (there-other j x xs (λ e. differ (sym is_i ∙ e))) ∙ there_j)
      (λ m not_i not_j there before after. (apart m not_i not_j there).0 (before, after)) in
      rw (index_first i j x xs (or_left (x.0 == i) (x.0 == j) (eq-eqb x.0 i is_i))) (found.0, omega (arith, found.1))
  | inr not_i ↦ elim (cases_eq x.0 j) [
    | inl is_j ↦
        let found = found_first j i x xs distinct is_j (sym (there-other i x xs not_i) ∙ there_i)
        (λ m other_j other_i there before after. (apart m other_i other_j there).1 (before, after)) in
        rw (index_first i j x xs (or_right (x.0 == i) (x.0 == j) (eq-eqb x.0 j is_j))) (neighbours_turned i j 0 (x ∷ xs) ∙ found.0, omega (arith, found.1))
    | inr not_j ↦
        let found = neighbours_found i j xs distinct.1 differ (sym (there-other i x xs not_i) ∙ there_i) (sym (there-other j x xs not_j) ∙ there_j)
        (λ m other_i other_j there.
        let it = apart m other_i other_j (there-later m x xs there) in
        (λ both. it.0 (before-later i m x xs both.0, before-later m j x xs both.1), λ both. it.1 (before-later j m x xs both.0, before-later m i x xs both.1))) in
        rw (index_later i j x xs not_i not_j) (neighbours-later i j (index_of_pair i j xs) x xs ∙ found.0, omega (arith, found.1))
  ]
]
