-- Ranges of numbers, and tests of members.
use Rattle.std.proofs.Common.{◌≡◌, ℕ, zero, suc, ◌+◌, Bool, true, false, ◌||◌, Some, List, [], ◌∷◌, ◌++◌, drop, refl, ap, sym, ◌∙◌, arith}
use Rattle.std.specs.Prelude.{filter, slice_get}
use Rattle.std.specs.List.{range_with_len, list_any}
use Rattle.step_vars.proofs.Ranges.{range_more, filter_taken as taken, filter_passed as passed}

pub range_below : (n : ℕ) → range_with_len 0 (n + 1) ≡ range_with_len 0 n ++ n ∷ []
range_below n = range_more n

pub filter_taken : (p : ℕ → Bool) (n : ℕ) → p n ≡ true → filter p (range_with_len 0 (n + 1)) ≡ filter p (range_with_len 0 n) ++ n ∷ []
filter_taken p n h = taken p n h

pub filter_passed : (p : ℕ → Bool) (n : ℕ) → p n ≡ false → filter p (range_with_len 0 (n + 1)) ≡ filter p (range_with_len 0 n)
filter_passed p n h = passed p n h

-- the first of what is left, and the rest of it
pub any_from : {X : Type 0} (p : X → Bool) (xs : List X) (k : ℕ) (x : X) → slice_get xs k ≡ Some x → list_any p (drop k xs) ≡ (p x || list_any p (drop (k + 1) xs))
any_from p [] k x e = absurd (cc)
any_from p (y ∷ xs) zero x e = let same : y ≡ x = cc in ap (λ z. p z || list_any p xs) same
any_from p (y ∷ xs) (suc k) x e =
    let next : list_any p (drop k xs) ≡ (p x || list_any p (drop (k + 1) xs)) = any_from p xs k x e in
    let n : suc k + 1 ≡ suc (k + 1) = omega arith in
    rw n next

pub any_true : {X : Type 0} (p : X → Bool) (xs : List X) (k : ℕ) (x : X) → slice_get xs k ≡ Some x → p x ≡ true → true ≡ list_any p (drop k xs)
any_true p xs k x e h = sym (any_from p xs k x e ∙ rw h refl)

pub any_false : {X : Type 0} (p : X → Bool) (xs : List X) (k : ℕ) (x : X) → slice_get xs k ≡ Some x → p x ≡ false → list_any p (drop k xs) ≡ list_any p (drop (k + 1) xs)
any_false p xs k x e h = any_from p xs k x e ∙ rw h refl
