-- Elements of lists that grow at their end.
use Rattle.std.proofs.Common.{◌≡◌, ℕ, zero, suc, ◌<◌, List, [], ◌∷◌, ◌++◌, length, take, Some, refl, ap, ◌∙◌, inl, inr, arith}
use Rattle.std.specs.Prelude.{◌⊎◌, Contains, slice_get}
use Rattle.std.proofs.lemmas.Option.{same_Some, none-some, slice_get-get_or, get_or_from_slice_get, slice_get_within}

pub slice_pushed : {X : Type 0} (xs : List X) (x y : X) (k : ℕ) → slice_get (xs ++ x ∷ []) k ≡ Some y → ((k < length xs) × (slice_get xs k ≡ Some y)) ⊎ ((k ≡ length xs) × (x ≡ y))
slice_pushed [] x y zero e = inr (refl, same_Some x y e)
slice_pushed [] x y (suc k) e = absurd (none-some y e)
slice_pushed (z ∷ zs) x y zero e = inl (omega arith, e)
slice_pushed (z ∷ zs) x y (suc k) e = elim (slice_pushed zs x y k e) [
  | inl there ↦ inl (omega (arith, there.0), there.1)
  | inr last ↦ inr (omega (arith, last.0), last.1)
]

pub slice_kept : {X : Type 0} (xs ys : List X) (y : X) (k : ℕ) → slice_get xs k ≡ Some y → slice_get (xs ++ ys) k ≡ Some y
slice_kept [] ys y k e = absurd (none-some y e)
slice_kept (z ∷ zs) ys y zero e = e
slice_kept (z ∷ zs) ys y (suc k) e = slice_kept zs ys y k e

pub slice_last : {X : Type 0} (xs : List X) (x : X) → slice_get (xs ++ x ∷ []) (length xs) ≡ Some x
slice_last [] x = refl
slice_last (z ∷ zs) x = slice_last zs x

pub slice_taken : {X : Type 0} (n : ℕ) (xs : List X) (y : X) (k : ℕ) → slice_get (take n xs) k ≡ Some y → (k < n) × (slice_get xs k ≡ Some y)
slice_taken zero xs y k e = absurd (none-some y e)
slice_taken (suc n) [] y k e = absurd (none-some y e)
slice_taken (suc n) (z ∷ zs) y zero e = (omega arith, e)
slice_taken (suc n) (z ∷ zs) y (suc k) e = let more = slice_taken n zs y k e in (omega (arith, more.0), more.1)

pub slice_take : {X : Type 0} (n : ℕ) (xs : List X) (y : X) (k : ℕ) → k < n → slice_get xs k ≡ Some y → slice_get (take n xs) k ≡ Some y
slice_take zero xs y k h e = absurd (omega arith)
slice_take (suc n) [] y k h e = e
slice_take (suc n) (z ∷ zs) y zero h e = e
slice_take (suc n) (z ∷ zs) y (suc k) h e = slice_take n zs y k (omega arith) e

pub there_is : {X : Type 0} (xs : List X) (x : X) → Contains xs x → (k : ℕ) × (slice_get xs k ≡ Some x)
there_is xs x h = (h.0, slice_get-get_or xs h.0 x h.1 ∙ ap Some h.2)

pub is_there : {X : Type 0} (xs : List X) (x : X) (k : ℕ) → slice_get xs k ≡ Some x → Contains xs x
is_there xs x k e = (k, slice_get_within xs k x e, get_or_from_slice_get xs k x x e)
