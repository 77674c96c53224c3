-- Loops over ranges and lists: what is left after one more step.
use Rattle.std.proofs.Common.{◌≡◌, ℕ, ◌+◌, ◌-◌, ◌<◌, ◌≤◌, Bool, true, false, cond, List, [], ◌∷◌, ◌++◌, length, map, zero, suc, refl, sym, ap, ◌∙◌, arith, ◌&&◌, add-one, add-zero, zero-add, append_assoc}
use Rattle.std.proofs.lemmas.List.{append-nil}
use Rattle.std.proofs.lemmas.List.FromFn.{map-range_with_len_more}
use Rattle.std.specs.Prelude.{filter}
use Rattle.std.proofs.lemmas.Bool.{cond_both}
use Rattle.std.specs.List.{range_with_len, flat_map}

-- one number more of a range
pub range_step : (i n : ℕ) → i < n → range_with_len i (n - i) ≡ i ∷ range_with_len (i + 1) (n - (i + 1))
range_step i n h =
    let e : n - i ≡ suc (n - (i + 1)) = omega arith in
    rw e refl

pub range_done : (i n : ℕ) → n ≤ i → range_with_len i (n - i) ≡ []
range_done i n h =
    let e : n - i ≡ zero = omega arith in
    rw e refl

-- what is not filtered out so far and what is left
pub filter_step : (p : ℕ → Bool) (i n : ℕ) → i < n → filter p (range_with_len i (n - i)) ≡ cond (p i) (i ∷ filter p (range_with_len (i + 1) (n - (i + 1)))) (filter p (range_with_len (i + 1) (n - (i + 1))))
filter_step p i n h = rw (range_step i n h) refl

cond_more : (x : ℕ) (b : Bool) (xs ys zs : List ℕ) → xs ≡ ys ++ zs → cond b (x ∷ xs) xs ≡ cond b (x ∷ ys) ys ++ zs
cond_more x true xs ys zs e = ap (λ r. x ∷ r) e
cond_more x false xs ys zs e = e

range_from_more : (a n : ℕ) → range_with_len a (suc n) ≡ range_with_len a n ++ (a + n) ∷ []
range_from_more a zero = rw add-zero refl
range_from_more a (suc n) =
    let e : a + 1 + n ≡ a + suc n = omega arith in
    ap (λ r. a ∷ r) (range_from_more (a + 1) n ∙ ap (λ k. range_with_len (a + 1) n ++ k ∷ []) e)

pub range_more : (n : ℕ) → range_with_len 0 (n + 1) ≡ range_with_len 0 n ++ n ∷ []
range_more n = rw add-one (range_from_more 0 n ∙ rw zero-add refl)

pub map_more : {X : Type 0} (f : ℕ → X) (a n : ℕ) → map f (range_with_len a (n + 1)) ≡ map f (range_with_len a n) ++ f (a + n) ∷ []
map_more f a n = map-range_with_len_more f a n (a + n) refl

-- the numbers that pass a test, with one number more
pub filter-append : (p : ℕ → Bool) (xs ys : List ℕ) → filter p (xs ++ ys) ≡ filter p xs ++ filter p ys
filter-append p [] ys = refl
filter-append p (x ∷ xs) ys = cond_more x (p x) (filter p (xs ++ ys)) (filter p xs) (filter p ys) (filter-append p xs ys)

pub filter_one : (p : ℕ → Bool) (xs : List ℕ) (x : ℕ) → p x ≡ true → filter p (xs ++ x ∷ []) ≡ filter p xs ++ x ∷ []
filter_one p xs x h = filter-append p xs (x ∷ []) ∙ rw h refl

pub filter_none : (p : ℕ → Bool) (xs : List ℕ) (x : ℕ) → p x ≡ false → filter p (xs ++ x ∷ []) ≡ filter p xs
filter_none p xs x h = filter-append p xs (x ∷ []) ∙ rw h (append-nil (filter p xs))

pub filter_taken : (p : ℕ → Bool) (n : ℕ) → p n ≡ true → filter p (range_with_len 0 (n + 1)) ≡ filter p (range_with_len 0 n) ++ n ∷ []
filter_taken p n h = ap (filter p) (range_more n) ∙ filter_one p (range_with_len 0 n) n h

pub filter_passed : (p : ℕ → Bool) (n : ℕ) → p n ≡ false → filter p (range_with_len 0 (n + 1)) ≡ filter p (range_with_len 0 n)
filter_passed p n h = ap (filter p) (range_more n) ∙ filter_none p (range_with_len 0 n) n h

pub flat_map-append : {X : Type 0} (f : ℕ → List X) (xs ys : List ℕ) → flat_map f (xs ++ ys) ≡ flat_map f xs ++ flat_map f ys
flat_map-append f [] ys = refl
flat_map-append f (x ∷ xs) ys = ap (λ r. f x ++ r) (flat_map-append f xs ys) ∙ sym (append_assoc (f x) (flat_map f xs) (flat_map f ys))

pub flat_map_one : {X : Type 0} (f : ℕ → List X) (xs : List ℕ) (x : ℕ) → flat_map f (xs ++ x ∷ []) ≡ flat_map f xs ++ f x
flat_map_one f xs x = flat_map-append f xs (x ∷ []) ∙ ap (λ r. flat_map f xs ++ r) (append-nil (f x))

pub flat_map_more : {X : Type 0} (f : ℕ → List X) (n : ℕ) → flat_map f (range_with_len 0 (n + 1)) ≡ flat_map f (range_with_len 0 n) ++ f n
flat_map_more f n = ap (flat_map f) (range_more n) ∙ flat_map_one f (range_with_len 0 n) n

pub map-one : {X : Type 0} (f : ℕ → X) (xs : List ℕ) (x : ℕ) → map f (xs ++ x ∷ []) ≡ map f xs ++ f x ∷ []
map-one f [] x = refl
map-one f (y ∷ xs) x = ap (λ r. f y ∷ r) (map-one f xs x)

filter_both_at : (p q : ℕ → Bool) (x : ℕ) (b : Bool) (xs : List ℕ) → filter q (filter p xs) ≡ filter (λ y. p y && q y) xs
    → filter q (cond b (x ∷ filter p xs) (filter p xs)) ≡ cond (b && q x) (x ∷ filter (λ y. p y && q y) xs) (filter (λ y. p y && q y) xs)
filter_both_at p q x true xs e = ap (λ r. cond (q x) (x ∷ r) r) e
filter_both_at p q x false xs e = e

pub filter_both : (p q : ℕ → Bool) (xs : List ℕ) → filter q (filter p xs) ≡ filter (λ x. p x && q x) xs
filter_both p q [] = refl
filter_both p q (x ∷ xs) = filter_both_at p q x (p x) xs (filter_both p q xs)

pub filter_long : (p : ℕ → Bool) (a n : ℕ) → length (filter p (range_with_len a n)) ≤ n
filter_long p a zero = omega arith
filter_long p a (suc n) = cond_both (p a) (a ∷ filter p (range_with_len (a + 1) n)) (filter p (range_with_len (a + 1) n)) (λ xs. length xs ≤ suc n) (λ _. omega (arith, filter_long p (a + 1) n)) (λ _. omega (arith, filter_long p (a + 1) n))
