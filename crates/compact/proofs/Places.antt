-- Members of lists by their place.
use Rattle.std.proofs.Common.{◌≡◌, ℕ, zero, suc, ◌+◌, ◌<◌, List, [], ◌∷◌, ◌++◌, length, take, drop, Some, None, refl, ap, ◌∙◌, inl, inr, arith}
use Rattle.std.specs.Prelude.{Contains, slice_get, ◌⊎◌}
use Rattle.std.proofs.lemmas.Option.{none-some, same_Some, slice_get_within, get_or_from_slice_get, slice_get-get_or}

pub contains_at : {X : Type 0} (xs : List X) (k : ℕ) (x : X) → slice_get xs k ≡ Some x → Contains xs x
contains_at xs k x e = (k, slice_get_within xs k x e, get_or_from_slice_get xs k x x e)

pub at_contains : {X : Type 0} (xs : List X) (x : X) → Contains xs x → (k : ℕ) × (slice_get xs k ≡ Some x)
at_contains xs x (k, h, e) = (k, slice_get-get_or xs k x h ∙ ap Some e)

-- a place of the first members is one of the list
pub in_front : {X : Type 0} (xs : List X) (n k : ℕ) (x : X) → slice_get (take n xs) k ≡ Some x → (k < n) × (slice_get xs k ≡ Some x)
in_front xs zero k x e = absurd cc
in_front [] (suc n) k x e = absurd cc
in_front (y ∷ ys) (suc n) zero x e = (omega arith, e)
in_front (y ∷ ys) (suc n) (suc k) x e = let rest = in_front ys n k x e in (omega (arith, rest.0), rest.1)

pub front_at : {X : Type 0} (xs : List X) (n k : ℕ) (x : X) → k < n → slice_get xs k ≡ Some x → slice_get (take n xs) k ≡ Some x
front_at xs zero k x h e = absurd (omega arith)
front_at [] (suc n) k x h e = absurd cc
front_at (y ∷ ys) (suc n) zero x h e = e
front_at (y ∷ ys) (suc n) (suc k) x h e = front_at ys n k x (omega arith) e

pub after_front : {X : Type 0} (xs : List X) (n k m : ℕ) → n + k ≡ m → slice_get (drop n xs) k ≡ slice_get xs m
after_front xs zero k m h = let e : k ≡ m = omega arith in ap (slice_get xs) e
after_front [] (suc n) k m h = refl
after_front (y ∷ ys) (suc n) k zero h = absurd (omega arith)
after_front (y ∷ ys) (suc n) k (suc m) h = after_front ys n k m (omega arith)

-- a place of a list that grew by one
pub pushed : {X : Type 0} (xs : List X) (x y : X) (k : ℕ) → slice_get (xs ++ x ∷ []) k ≡ Some y → ((k < length xs) × (slice_get xs k ≡ Some y)) ⊎ ((k ≡ length xs) × (x ≡ y))
pushed [] x y zero e = inr (refl, same_Some x y e)
pushed [] x y (suc k) e = absurd cc
pushed (z ∷ zs) x y zero e = inl (omega arith, e)
pushed (z ∷ zs) x y (suc k) e = elim (pushed zs x y k e) [
  | inl there ↦ inl (omega (arith, there.0), there.1)
  | inr last ↦ inr (omega (arith, last.0), last.1)
]

pub pushed_old : {X : Type 0} (xs : List X) (x y : X) (k : ℕ) → slice_get xs k ≡ Some y → slice_get (xs ++ x ∷ []) k ≡ Some y
pushed_old [] x y k e = absurd cc
pushed_old (z ∷ zs) x y zero e = e
pushed_old (z ∷ zs) x y (suc k) e = pushed_old zs x y k e

pub pushed_last : {X : Type 0} (xs : List X) (x : X) (k : ℕ) → k ≡ length xs → slice_get (xs ++ x ∷ []) k ≡ Some x
pushed_last [] x zero h = refl
pushed_last [] x (suc k) h = absurd (omega arith)
pushed_last (z ∷ zs) x zero h = absurd (omega arith)
pushed_last (z ∷ zs) x (suc k) h = pushed_last zs x k (omega arith)

pub some_at : {X : Type 0} (xs : List X) (k : ℕ) → k < length xs → (x : X) × (slice_get xs k ≡ Some x)
some_at [] k h = absurd (omega arith)
some_at (y ∷ ys) zero h = (y, refl)
some_at (y ∷ ys) (suc k) h = some_at ys k (omega arith)

pub nowhere : {X : Type 0} (xs : List X) (k : ℕ) → None ≡ slice_get xs k → k < length xs → ⊥
nowhere xs k none h = let one = some_at xs k h in none-some one.0 (none ∙ one.1)
