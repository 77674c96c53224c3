-- How many operations are still to be performed.
use Rattle.std.proofs.Common.{◌≡◌, ℕ, zero, suc, ◌+◌, ◌<◌, ◌≤◌, List, [], ◌∷◌, ◌++◌, Bool, true, false, cond, ap, ◌∙◌, inl, inr, arith}
use Rattle.std.specs.Prelude.{◌==◌, ◌||◌, if◌then◌else◌}
use Rattle.std.proofs.lemmas.Bool.{cases_eq, cases_Bool, eqb-true, eq-eqb}
use Rattle.std.proofs.lemmas.List.{get_or_default}
use Rattle.std.proofs.lemmas.List.Folds.{list_any-append, Any-from_list_any}
use Rattle.std.specs.List.{list_any}
use Rattle.qc_base.specs.declared.ids.OpId.{OpId}
use Rattle.gate_order.specs.Ready.{IsAmong}
use Rattle.gate_order.specs.Keeping.{op as op_of}

-- how many of the first so many numbers are none of these
abbrev pub undone : ℕ → List OpId → ℕ
undone zero done = 0
undone (suc number) done = undone number done + (if list_any (λ (op : OpId). op.0 == number) done then 0 else 1)

-- an operation that passes the test is there
found_among : (number : ℕ) (done : List OpId) → list_any (λ (it : OpId). it.0 == number) done ≡ true → IsAmong done number
found_among number done e =
    let it = Any-from_list_any (λ (op : OpId). op.0 == number) done e in
    let same : it.1.0 ≡ number = eqb-true it.1.0 number it.4 in
    (it.0, it.2, get_or_default done it.0 (op_of number) it.1 it.2 ∙ it.3 ∙ ap op_of same)

not_yet : (number : ℕ) (done : List OpId) → ¬ IsAmong done number → list_any (λ (it : OpId). it.0 == number) done ≡ false
not_yet number done out = elim (cases_Bool (list_any (λ (it : OpId). it.0 == number) done)) [
  | inl there ↦ absurd (out (found_among number done there))
  | inr missing ↦ missing
]

fewer : (before more : Bool) → cond (before || more) 0 1 ≤ cond before 0 1
fewer true more = omega arith
fewer false true = omega arith
fewer false false = omega arith

one_fewer : (m n : ℕ) (after before more : Bool) → m ≤ n → after ≡ (before || more) → before ≡ false → more ≡ true → m + cond after 0 1 < n + cond before 0 1
one_fewer m n after before more h split off on = rw (split, off, on) (omega arith)

no_more : (m n : ℕ) (after before more : Bool) → m < n → after ≡ (before || more) → m + cond after 0 1 < n + cond before 0 1
no_more m n after before more h split = rw split (omega (arith, fewer before more))

no_more_most : (m n : ℕ) (after before more : Bool) → m ≤ n → after ≡ (before || more) → m + cond after 0 1 ≤ n + cond before 0 1
no_more_most m n after before more h split = rw split (omega (arith, fewer before more))

undone_most : (count : ℕ) (done : List OpId) (op : OpId) → undone count (done ++ op ∷ []) ≤ undone count done
undone_most zero done op = omega arith
undone_most (suc number) done op =
    no_more_most (undone number (done ++ op ∷ [])) (undone number done) _ (list_any (λ (it : OpId). it.0 == number) done) _ (undone_most number done op)
    (list_any-append (λ (it : OpId). it.0 == number) done (op ∷ []))

pub undone_less : (count : ℕ) (done : List OpId) (op : OpId) → op.0 < count → ¬ IsAmong done op.0 → undone count (done ++ op ∷ []) < undone count done
undone_less zero done op below out = absurd (omega arith)
undone_less (suc number) done op below out =
    let before = list_any (λ (it : OpId). it.0 == number) done in
    let split = list_any-append (λ (it : OpId). it.0 == number) done (op ∷ []) in
    elim (cases_eq op.0 number) [
      | inl same ↦ one_fewer (undone number (done ++ op ∷ [])) (undone number done) _ before _ (undone_most number done op) split
          (not_yet number done (λ among. out (rw same among))) (ap (λ (b : Bool). b || false) (eq-eqb op.0 number same))
      | inr other ↦ no_more (undone number (done ++ op ∷ [])) (undone number done) _ before _ (undone_less number done op (omega arith) out) split
    ]
