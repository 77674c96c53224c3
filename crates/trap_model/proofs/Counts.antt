-- How many members of a list pass a test, and where the only one that does stands.
use Rattle.std.proofs.Common.{◌≡◌, ◌≢◌, ℕ, zero, suc, ◌+◌, ◌<◌, ◌≤◌, Bool, true, false, cond, List, [], ◌∷◌, ◌++◌, length, get_or, find, Option, None, Some, refl, sym, ap, ◌∙◌, inl, inr, arith, slice_get}
use Rattle.std.specs.Bool.{Decides}
use Rattle.std.specs.List.{AllPairs, flat_map, position_from, range_with_len}
use Rattle.std.proofs.lemmas.Bool.{cases_Bool, cases_lt, cond-true, cond-false, false_from_ne_true}
use Rattle.std.proofs.lemmas.Option.{same_Some, none-some}
use Rattle.qc_base.specs.Counting.{how_many}

pub how_many-append : {X : Type 0} (p : X → Bool) (xs ys : List X) → how_many p (xs ++ ys) ≡ how_many p xs + how_many p ys
how_many-append p [] ys = omega arith
how_many-append p (x ∷ xs) ys = omega (arith, how_many-append p xs ys)

-- none is found where none passes
pub none_passes : {X : Type 0} (p : X → Bool) (xs : List X) → find p xs ≡ None → how_many p xs ≡ 0
none_passes p [] e = refl
none_passes p (x ∷ xs) e = elim (cases_Bool (p x)) [
  | inl here ↦ absurd (none-some x (sym e ∙ cond-true (p x) (Some x) (find p xs) here))
  | inr not ↦ omega (arith, cond-false {A = ℕ} (p x) 1 0 not, none_passes p xs (sym (cond-false (p x) (Some x) (find p xs) not) ∙ e))
]

none_of : {X : Type 0} (p : X → Bool) (xs : List X) → ((k : ℕ) (d : X) → k < length xs → p (get_or xs k d) ≡ false) → how_many p xs ≡ 0
none_of p [] all = refl
none_of p (x ∷ xs) all = omega (arith, cond-false {A = ℕ} (p x) 1 0 (all 0 x (omega arith)), none_of p xs (λ k d h. all (suc k) d (omega arith)))

-- of members that all differ, one at most is that one
pub one_of : {X : Type 0} (same : X → X → Bool) (decides : (x y : X) → Decides (same x y) (x ≡ y)) (y : X) (xs : List X) → AllPairs (λ a b. a ≢ b) xs → how_many (same y) xs ≤ 1
one_of same decides y [] all = omega arith
one_of same decides y (x ∷ xs) all = elim (cases_Bool (same y x)) [
  | inl here ↦
      let none : how_many (same y) xs ≡ 0 =
      none_of (same y) xs (λ k d h. false_from_ne_true (same y (get_or xs k d)) (λ e. all 0 (suc k) d (omega arith) (omega arith) (sym ((decides y x).0 here) ∙ (decides y (get_or xs k d)).0 e))) in
      omega (arith, none, cond-true {A = ℕ} (same y x) 1 0 here)
  | inr not ↦ omega (arith, cond-false {A = ℕ} (same y x) 1 0 not, one_of same decides y xs (λ i j d below h. all (suc i) (suc j) d (omega arith) (omega arith)))
]

-- ---- the only one that passes

pub counted_there : {X : Type 0} (p : X → Bool) (xs : List X) (k : ℕ) (x : X) → slice_get xs k ≡ Some x → p x ≡ true → 1 ≤ how_many p xs
counted_there p [] k x e is = absurd cc
counted_there p (y ∷ ys) zero x e is = omega (arith, cond-true {A = ℕ} (p y) 1 0 (ap p (same_Some y x e) ∙ is))
counted_there p (y ∷ ys) (suc k) x e is = omega (arith, counted_there p ys k x e is)

first_passes : (b : Bool) (count i n : ℕ) (rest : Option ℕ) → cond b 1 0 + count ≤ 1 → 1 ≤ count → rest ≡ Some n → cond b (Some i) rest ≡ Some n
first_passes true count i n rest once some e = absurd (omega arith)
first_passes false count i n rest once some e = e

pub only_one : {X : Type 0} (p : X → Bool) (xs : List X) (i k : ℕ) (x : X) → how_many p xs ≤ 1 → slice_get xs k ≡ Some x → p x ≡ true → position_from p i xs ≡ Some (i + k)
only_one p [] i k x once e is = absurd cc
only_one p (y ∷ ys) i zero x once e is =
    let same : i ≡ i + 0 = omega arith in
    cond-true (p y) (Some i) (position_from p (i + 1) ys) (ap p (same_Some y x e) ∙ is) ∙ ap Some same
only_one p (y ∷ ys) i (suc k) x once e is =
    let next : i + 1 + k ≡ i + suc k = omega arith in
    first_passes (p y) (how_many p ys) i (i + suc k) (position_from p (i + 1) ys) once (counted_there p ys k x e is) (only_one p ys (i + 1) k x (omega (arith, once)) e is ∙ ap Some next)

-- ---- blocks, one for each member

-- no block has more than its member counts for
pub blocks_within : {X Y : Type 0} (p : Y → Bool) (f : X → List Y) (q : X → Bool) → ((x : X) → how_many p (f x) ≤ cond (q x) 1 0) → (xs : List X) → how_many p (flat_map f xs) ≤ how_many q xs
blocks_within p f q small [] = omega arith
blocks_within p f q small (x ∷ xs) = omega (arith, how_many-append p (f x) (flat_map f xs), small x, blocks_within p f q small xs)

pub record IsInRange (K : ℕ → Type 0) (first n : ℕ) : Type 0 where
  pub number : ℕ
  pub low : first ≤ number
  pub high : number < first + n
  pub is : K number

-- a block of a range that has one
pub some_in_range : {Y : Type 0} (p : Y → Bool) (f : ℕ → List Y) (K : ℕ → Type 0) → ((x : ℕ) → 1 ≤ how_many p (f x) → K x) → (first n : ℕ) → 1 ≤ how_many p (flat_map f (range_with_len first n)) → IsInRange K first n
some_in_range p f K has first zero some = absurd (omega arith)
some_in_range p f K has first (suc n) some = elim (cases_lt 0 (how_many p (f first))) [
  | inl here ↦ record { number = first; low = omega arith; high = omega arith; is = has first (omega (arith, here)) }
  | inr none ↦
      let rest = some_in_range p f K has (first + 1) n (omega (arith, some, none, how_many-append p (f first) (flat_map f (range_with_len (first + 1) n)))) in
      record { number = rest.number; low = omega (arith, rest.low); high = omega (arith, rest.high); is = rest.is }
]

pub one_in_range : {Y : Type 0} (p : Y → Bool) (f : ℕ → List Y) (K : ℕ → Type 0) → ((x : ℕ) → 1 ≤ how_many p (f x) → K x) → ((x y : ℕ) → K x → K y → x ≡ y)
    → (first n : ℕ) → ((x : ℕ) → x < first + n → how_many p (f x) ≤ 1) → how_many p (flat_map f (range_with_len first n)) ≤ 1
one_in_range p f K has same first zero once = omega arith
one_in_range p f K has same first (suc n) once =
    let head : ℕ = how_many p (f first) in
    let tail : ℕ = how_many p (flat_map f (range_with_len (first + 1) n)) in
    let sum : how_many p (flat_map f (range_with_len first (suc n))) ≡ head + tail = how_many-append p (f first) (flat_map f (range_with_len (first + 1) n)) in
    elim (cases_lt 0 head) [
      | inl here ↦ elim (cases_lt 0 tail) [
        | inl there ↦
            let other = some_in_range p f K has (first + 1) n (omega (arith, there)) in
            absurd (omega (arith, other.low, same first other.number (has first (omega (arith, here))) other.is))
        | inr none ↦ omega (arith, sum, none, once first (omega arith))
      ]
      | inr none ↦ omega (arith, sum, none, one_in_range p f K has same (first + 1) n (λ x h. once x (omega (arith, h))))
    ]
