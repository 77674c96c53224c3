-- A place in a list.
use Rattle.std.proofs.Common.{◌≡◌, ℕ, suc, ◌+◌, List, ◌∷◌, drop, slice_get, Some, None, ap, sym, ◌∙◌, add-one, inl, inr}
use Rattle.std.proofs.Math.Seq.{drop-cons}
use Rattle.std.proofs.lemmas.Option.{slice_get_cases}

pub drop_some : {X : Type 0} (xs : List X) (i : ℕ) (x : X) → slice_get xs i ≡ Some x → drop i xs ≡ x ∷ drop (i + 1) xs
drop_some {X} xs i x h = elim (slice_get_cases xs i).1 [
  | inl w ↦ (let same : w.0 ≡ x = cc in
      drop-cons xs i w.0 w.1 ∙ ap (λ (y : X). y ∷ drop (suc i) xs) (w.3 ∙ same) ∙ ap (λ (n : ℕ). x ∷ drop n xs) (sym (add-one i)))
  | inr w ↦ (let clash : None ≡ Some x = sym w.1 ∙ h in absurd (cc))
]
