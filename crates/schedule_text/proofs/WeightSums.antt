-- Sums over a list whose members have some of the first numbers, each of which has a weight.
use Rattle.std.proofs.Common.{◌≡◌, ℕ, zero, suc, ◌+◌, ◌<◌, ◌≤◌, ◌⊎◌, List, [], ◌∷◌, ◌++◌, length, Bool, true, false, cond, refl, sym, inl, inr, arith}
use Rattle.std.specs.Prelude.{All}
use Rattle.std.proofs.lemmas.Bool.{cases_eq, cases_Bool}
use Rattle.std.proofs.lemmas.List.Elements.{All-head, All-tail}
use Rattle.qc_base.specs.Counting.{how_many}

abbrev pub sum_over : {A : Type 0} → (A → ℕ) → List A → ℕ
sum_over f [] = 0
sum_over f (x ∷ xs) = f x + sum_over f xs

-- the weights of the first so many numbers together
abbrev pub all_weights : (ℕ → ℕ) → ℕ → ℕ
all_weights weight zero = 0
all_weights weight (suc n) = weight n + all_weights weight n

-- the weights of those of them that the member has
abbrev pub weights_of : {A : Type 0} → (ℕ → A → Bool) → (ℕ → ℕ) → ℕ → A → ℕ
weights_of has weight zero x = 0
weights_of has weight (suc n) x = cond (has n x) (weight n) 0 + weights_of has weight n x

pub sum_append : {A : Type 0} (f : A → ℕ) (xs ys : List A) → sum_over f (xs ++ ys) ≡ sum_over f xs + sum_over f ys
sum_append f [] ys = omega arith
sum_append f (x ∷ xs) ys = omega (arith, sum_append f xs ys)

pub sum_within : {A : Type 0} (f g : A → ℕ) (xs : List A) → All (λ x. f x ≤ g x) xs → sum_over f xs ≤ sum_over g xs
sum_within {A = A} f g [] each = omega arith
sum_within {A = A} f g (x ∷ xs) each =
    let P : A → Type 0 = λ y. f y ≤ g y in
    omega (arith, All-head P x xs each, sum_within f g xs (All-tail P x xs each))

sum_none : {A : Type 0} (xs : List A) → sum_over (λ x. 0) xs ≡ 0
sum_none [] = refl
sum_none (x ∷ xs) = omega (arith, sum_none xs)

sum_both : {A : Type 0} (f g : A → ℕ) (xs : List A) → sum_over (λ x. f x + g x) xs ≡ sum_over f xs + sum_over g xs
sum_both f g [] = refl
sum_both f g (x ∷ xs) = omega (arith, sum_both f g xs)

abbrev count : Bool → ℕ → ℕ
count b weight = cond b weight 0

none_counted : {A : Type 0} (test : A → Bool) (weight : ℕ) (xs : List A) → how_many test xs ≤ 0 → sum_over (λ x. count (test x) weight) xs ≡ 0
none_counted test weight [] few = refl
none_counted test weight (x ∷ xs) few = elim (cases_Bool (test x)) [
  | inl here ↦ (let more = rw here at few in absurd (omega arith))
  | inr other ↦ (let more = rw other at few in rw other (omega (arith, none_counted test weight xs (omega arith))))
]

-- a weight that at most one member has
one_counted : {A : Type 0} (test : A → Bool) (weight : ℕ) (xs : List A) → how_many test xs ≤ 1 → sum_over (λ x. count (test x) weight) xs ≤ weight
one_counted test weight [] few = omega arith
one_counted test weight (x ∷ xs) few = elim (cases_Bool (test x)) [
  | inl here ↦ (let more = rw here at few in rw here (omega (arith, none_counted test weight xs (omega arith))))
  | inr other ↦ (let more = rw other at few in rw other (omega (arith, one_counted test weight xs (omega arith))))
]

nothing_counted : (b : Bool) (weight : ℕ) → weight ≡ 0 → count b weight ≡ 0
nothing_counted true weight e = e
nothing_counted false weight e = refl

no_weight : {A : Type 0} (test : A → Bool) (weight : ℕ) (xs : List A) → weight ≡ 0 → sum_over (λ x. count (test x) weight) xs ≡ 0
no_weight test weight [] e = refl
no_weight test weight (x ∷ xs) e = omega (arith, nothing_counted (test x) weight e, no_weight test weight xs e)

counted : {A : Type 0} (test : A → Bool) (weight : ℕ) (xs : List A) → (how_many test xs ≤ 1) ⊎ (weight ≡ 0) → sum_over (λ x. count (test x) weight) xs ≤ weight
counted test weight xs (inl few) = one_counted test weight xs few
counted test weight xs (inr none) = omega (arith, no_weight test weight xs none)

-- where at most one member has each number that has a weight, all members together have at most all weights
pub weights_within : {A : Type 0} (has : ℕ → A → Bool) (weight : ℕ → ℕ) (n : ℕ) (xs : List A) → ((k : ℕ) → k < n → (how_many (has k) xs ≤ 1) ⊎ (weight k ≡ 0)) → sum_over (weights_of has weight n) xs ≤ all_weights weight n
weights_within has weight zero xs once = omega (arith, sum_none xs)
weights_within has weight (suc n) xs once =
    omega (arith, sum_both (λ x. count (has n x) (weight n)) (weights_of has weight n) xs, counted (has n) (weight n) xs (once n (omega arith)), weights_within has weight n xs (λ k h. once k (omega arith)))

-- a member has the weight of its number
pub weight_within : {A : Type 0} (has : ℕ → A → Bool) (weight : ℕ → ℕ) (n : ℕ) (x : A) (k : ℕ) → k < n → has k x ≡ true → weight k ≤ weights_of has weight n x
weight_within has weight zero x k h there = absurd (omega arith)
weight_within has weight (suc n) x k h there = elim (cases_eq n k) [
  | inl same ↦ (let here = rw (sym same) at there in rw (sym same, here) (omega arith))
  | inr other ↦ omega (arith, weight_within has weight n x k (omega arith) there)
]

-- the first number and then the others
pub first_weight : (weight : ℕ → ℕ) (n : ℕ) → all_weights weight (suc n) ≡ weight 0 + all_weights (λ k. weight (suc k)) n
first_weight weight zero = omega arith
first_weight weight (suc n) = omega (arith, first_weight weight n)

ones : (n : ℕ) → all_weights (λ k. 1) n ≡ n
ones zero = refl
ones (suc n) = omega (arith, ones n)

ones_within : {A : Type 0} (has : ℕ → A → Bool) (number : A → ℕ) (n : ℕ) (xs : List A) → All (λ x. (number x < n) × (has (number x) x ≡ true)) xs → length xs ≤ sum_over (weights_of has (λ k. 1) n) xs
ones_within {A = A} has number n [] each = omega arith
ones_within {A = A} has number n (x ∷ xs) each =
    let P : A → Type 0 = λ y. (number y < n) × (has (number y) y ≡ true) in
    let here = All-head P x xs each in
    omega (arith, weight_within has (λ k. 1) n x (number x) here.0 here.1, ones_within has number n xs (All-tail P x xs each))

-- members that each have a number of their own below n are at most n
pub few_numbered : {A : Type 0} (has : ℕ → A → Bool) (number : A → ℕ) (n : ℕ) (xs : List A) → All (λ x. (number x < n) × (has (number x) x ≡ true)) xs → ((k : ℕ) → how_many (has k) xs ≤ 1) → length xs ≤ n
few_numbered has number n xs each once = omega (arith, ones_within has number n xs each, weights_within has (λ k. 1) n xs (λ k h. inl (once k)), ones n)
