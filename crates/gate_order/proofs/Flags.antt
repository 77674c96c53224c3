-- Flags of which operations are settled, after one of them is set.
use Rattle.std.proofs.Common.{◌≡◌, ◌≢◌, ℕ, zero, suc, ◌+◌, ◌<◌, Bool, true, false, List, [], ◌∷◌, ◌++◌, length, refl, sym, ap, subst, ◌∙◌, cond, inl, inr, arith}
use Rattle.std.specs.Prelude.{count_by}
use Rattle.std.proofs.Math.ListN.{set, length-set}
use Rattle.std.proofs.lemmas.Bool.{cases_eq, false≢true}
use Rattle.std.proofs.lemmas.List.{get_or-set_same, get_or-set_other}
use Rattle.std.proofs.lemmas.List.Sums.{sum_by-set, count_by-le-length, sum_by-append}
use Rattle.qc_base.specs.declared.ids.OpId.{OpId}
use Rattle.gate_order.specs.Keeping.{op, is_set}

pub set_within : (flags : List Bool) (number : ℕ) → is_set flags number ≡ true → number < length flags
set_within [] number is = absurd (false≢true is)
set_within (flag ∷ flags) zero is = omega arith
set_within (flag ∷ flags) (suc number) is = omega (arith, set_within flags number is)

pub set_here : (flags : List Bool) (number : ℕ) → number < length flags → is_set (set flags number true) number ≡ true
set_here flags number within = get_or-set_same flags number true false within

pub set_other : (flags : List Bool) (number other : ℕ) → other ≢ number → is_set (set flags number true) other ≡ is_set flags other
set_other flags number other ne = get_or-set_other flags number other true false ne

pub set_stays : (flags : List Bool) (number other : ℕ) → number < length flags → is_set flags other ≡ true → is_set (set flags number true) other ≡ true
set_stays flags number other within is = elim (cases_eq other number) [
  | inl same ↦ ap (λ k. is_set (set flags number true) k) same ∙ set_here flags number within
  | inr ne ↦ set_other flags number other ne ∙ is
]

-- one more is set
pub count_set : (flags : List Bool) (number : ℕ) → number < length flags → is_set flags number ≡ false → count_by (λ (flag : Bool). flag) (set flags number true) ≡ count_by (λ (flag : Bool). flag) flags + 1
count_set flags number within unset =
    let written = sum_by-set (λ (flag : Bool). cond flag 1 0) flags number true false within in
    sym (omega arith) ∙ subst (λ (flag : Bool). count_by (λ (f : Bool). f) (set flags number true) + cond flag 1 0 ≡ count_by (λ (f : Bool). f) flags + 1) unset written

pub room_for : (flags : List Bool) (number : ℕ) → number < length flags → is_set flags number ≡ false → count_by (λ (flag : Bool). flag) flags < length flags
room_for flags number within unset =
    omega (arith, count_set flags number within unset, count_by-le-length (λ (flag : Bool). flag) (set flags number true), length-set flags number true)

-- a flag more, which isn't set
pub set_more : (flags : List Bool) (number : ℕ) → is_set (flags ++ false ∷ []) number ≡ is_set flags number
set_more [] zero = refl
set_more [] (suc number) = refl
set_more (flag ∷ flags) zero = refl
set_more (flag ∷ flags) (suc number) = set_more flags number

pub count_more : (flags : List Bool) → count_by (λ (flag : Bool). flag) (flags ++ false ∷ []) ≡ count_by (λ (flag : Bool). flag) flags
count_more flags = grind (arith, sum_by-append)

pub same_op : (number other : ℕ) → op number ≡ op other → number ≡ other
same_op number other same = ap (λ (it : OpId). it.0) same
