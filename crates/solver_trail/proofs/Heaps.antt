-- The variables of a heap after changes.
use Rattle.std.proofs.Common.{◌≡◌, ℕ, ◌<◌, List, [], ◌∷◌, ◌++◌, length, take, get_or, ◌∙◌, sym, subst, IsPermutation}
use Rattle.std.specs.List.{swap_remove}
use Rattle.std.proofs.lemmas.List.{take_at}
use Rattle.std.proofs.lemmas.List.Sorted.{IsPermutation-trans, IsPermutation-sym, IsPermutation-cons, IsPermutation-to_front, IsPermutation-swap_remove}

-- a loop's permutation goes on
pub permuted_on : {a b c : List ℕ} → IsPermutation a b → IsPermutation b c → IsPermutation a c
permuted_on {a} {b} {c} first second = IsPermutation-trans a b c first second

-- a variable is put behind the members, and all are permuted
pub after_put : (var n : ℕ) (members pushed shown heap rest : List ℕ) → pushed ≡ members ++ var ∷ [] → shown ≡ pushed → length heap ≡ n → IsPermutation shown heap → IsPermutation (var ∷ members) (take n (heap ++ rest))
after_put var n members pushed shown heap rest is same len permuted =
    let kept = take_at heap rest n len in
    let front = IsPermutation-sym _ _ (IsPermutation-to_front members var) in
    subst (IsPermutation (var ∷ members)) (sym kept) (IsPermutation-trans _ _ _ front (subst (λ l. IsPermutation l heap) (same ∙ is) permuted))

-- the member of an index is taken out
pub after_removed : (var index : ℕ) (members left : List ℕ) → index < length members → var ≡ get_or members index var → left ≡ swap_remove members index var → IsPermutation members (var ∷ left)
after_removed var index members left low found is = subst (λ l. IsPermutation members (var ∷ l)) (sym is) (IsPermutation-swap_remove members index var low found)

-- the member of an index is taken out, and the others are permuted
pub after_pop : (var n index : ℕ) (members left shown heap rest : List ℕ) → index < length members → var ≡ get_or members index var → left ≡ swap_remove members index var → shown ≡ left → length heap ≡ n → IsPermutation shown heap → IsPermutation members (var ∷ take n (heap ++ rest))
after_pop var n index members left shown heap rest low found is same len permuted =
    let kept = take_at heap rest n len in
    let removed = after_removed var index members left low found is in
    subst (λ l. IsPermutation members (var ∷ l)) (sym kept) (IsPermutation-trans _ _ _ removed (IsPermutation-cons var left heap (subst (λ l. IsPermutation l heap) same permuted)))
