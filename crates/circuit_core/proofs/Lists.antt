-- The elements of a list that grew by one.
use Rattle.std.proofs.Common.{◌≡◌, ℕ, zero, suc, ◌<◌, List, [], ◌∷◌, ◌++◌, length, Some, refl, inl, inr, arith}
use Rattle.std.specs.Prelude.{slice_get, ◌⊎◌}
use Rattle.std.proofs.lemmas.Option.{same_Some, none-some}

pub slice_pushed : {X : Type 0} (xs : List X) (x y : X) (k : ℕ) → slice_get (xs ++ x ∷ []) k ≡ Some y → ((k < length xs) × (slice_get xs k ≡ Some y)) ⊎ ((k ≡ length xs) × (x ≡ y))
slice_pushed [] x y zero e = inr (refl, same_Some x y e)
slice_pushed [] x y (suc k) e = absurd (none-some y e)
slice_pushed (z ∷ zs) x y zero e = inl (omega arith, e)
slice_pushed (z ∷ zs) x y (suc k) e = elim (slice_pushed zs x y k e) [
  | inl there ↦ inl (omega (arith, there.0), there.1)
  | inr last ↦ inr (omega (arith, last.0), last.1)
]
