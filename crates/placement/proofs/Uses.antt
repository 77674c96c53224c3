-- Qubits in the order of their first use.
use Rattle.std.proofs.Common.{◌≡◌, ◌≢◌, ℕ, ◌+◌, ◌<◌, List, [], ◌∷◌, ◌++◌, length, set, Bool, true, false, cond, not, ◌||◌, refl, sym, ap, subst, ◌∙◌, inl, inr, arith}
use Rattle.std.specs.Prelude.{◌==◌, All}
use Rattle.std.specs.List.{filter}
use Rattle.std.proofs.lemmas.Bool.{eq-eqb, ne_eqb, eqb-true, cases_eq, cases_Bool}
use Rattle.std.proofs.lemmas.List.{append-nil}
use Rattle.std.proofs.lemmas.List.Folds.{list_any-append}
use Rattle.std.proofs.lemmas.List.Elements.{All-nil, All-cons, All-head, All-tail, All-filter, filter-append}
use Rattle.qc_base.specs.declared.ids.Qubit.{Qubit}
use Rattle.circuit_core.specs.Deciding.{is_listed}
use Rattle.step_rules.specs.Placement.{times}
use Rattle.step_rules.specs.Flags.{AreFlags}
use Rattle.step_rules.proofs.Reading.{flags_grown}
use Rattle.placement.specs.FirstUse.{is_other, without_repeats}
use Rattle.placement.specs.Orders.{AreUsed}

-- ---- each occurs once

times_dropped : (q : Qubit) (xs : List Qubit) → times q.0 (filter (is_other q) xs) ≡ 0
times_dropped q [] = refl
times_dropped q (x ∷ xs) = elim (cases_eq x.0 q.0) [
  | inl same ↦ (let here : (x.0 == q.0) ≡ true = eq-eqb x.0 q.0 same in rw here (times_dropped q xs))
  | inr other ↦ (let there : (x.0 == q.0) ≡ false = ne_eqb x.0 q.0 other in rw there (rw there (omega (arith, times_dropped q xs))))
]

times_kept : (k : ℕ) (q : Qubit) (xs : List Qubit) → q.0 ≢ k → times k (filter (is_other q) xs) ≡ times k xs
times_kept k q [] apart = refl
times_kept k q (x ∷ xs) apart = elim (cases_eq x.0 q.0) [
  | inl same ↦ (let here : (x.0 == q.0) ≡ true = eq-eqb x.0 q.0 same in
      let away : (x.0 == k) ≡ false = ne_eqb x.0 k (λ e. apart (sym same ∙ e)) in
      rw (here, away) (omega (arith, times_kept k q xs apart)))
  | inr other ↦ (let there : (x.0 == q.0) ≡ false = ne_eqb x.0 q.0 other in rw there (omega (arith, times_kept k q xs apart)))
]

-- a qubit that is used occurs once, and any other never
pub times_once : (k : ℕ) (uses : List Qubit) → times k (without_repeats uses) ≡ cond (is_listed k uses) 1 0
times_once k [] = refl
times_once k (q ∷ uses) = elim (cases_eq q.0 k) [
  | inl same ↦ (let here : (q.0 == k) ≡ true = eq-eqb q.0 k same in
      let none : times k (filter (is_other q) (without_repeats uses)) ≡ 0 = subst (λ (n : ℕ). times n (filter (is_other q) (without_repeats uses)) ≡ 0) same (times_dropped q (without_repeats uses)) in
      rw (here, none) refl)
  | inr other ↦ (let there : (q.0 == k) ≡ false = ne_eqb q.0 k other in
      rw there (omega (arith, times_kept k q (without_repeats uses) other, times_once k uses)))
]

pub all_used : (P : Qubit → Type 0) (uses : List Qubit) → All P uses → All P (without_repeats uses)
all_used P [] all = All-nil P
all_used P (q ∷ uses) all =
    All-cons P q (filter (is_other q) (without_repeats uses)) (All-head P q uses all) (All-filter (is_other q) P (without_repeats uses) (all_used P uses (All-tail P q uses all)))

-- ---- one more use

stands_more : (n : ℕ) (uses : List Qubit) (q : Qubit) → is_listed n (uses ++ q ∷ []) ≡ (is_listed n uses || ((q.0 == n) || false))
stands_more n uses q = list_any-append (λ (qubit : Qubit). qubit.0 == n) uses (q ∷ [])

or_here : (a b : Bool) → (b ≡ true → a ≡ true) → (a || (b || false)) ≡ a
or_here true b so = refl
or_here false true so = sym (so refl)
or_here false false so = refl

stands_again : (n : ℕ) (uses : List Qubit) (q : Qubit) → is_listed q.0 uses ≡ true → is_listed n (uses ++ q ∷ []) ≡ is_listed n uses
stands_again n uses q there =
    stands_more n uses q ∙ or_here (is_listed n uses) (q.0 == n) (λ e. subst (λ (m : ℕ). is_listed m uses ≡ true) (eqb-true q.0 n e) there)

or_true : (a : Bool) → (a || true) ≡ true
or_true true = refl
or_true false = refl

one_more : (first : Qubit) (q : Qubit) (rest : List Qubit) → first ∷ filter (is_other first) (rest ++ q ∷ []) ≡ cond ((first.0 == q.0) || false) (first ∷ filter (is_other first) rest) ((first ∷ filter (is_other first) rest) ++ q ∷ [])
one_more first q rest = elim (cases_eq q.0 first.0) [
  | inl same ↦ (let here : (q.0 == first.0) ≡ true = eq-eqb q.0 first.0 same in
      let back : (first.0 == q.0) ≡ true = eq-eqb first.0 q.0 (sym same) in
      rw (filter-append (is_other first) rest (q ∷ []), here, back) (ap (λ (l : List Qubit). first ∷ l) (append-nil (filter (is_other first) rest))))
  | inr other ↦ (let there : (q.0 == first.0) ≡ false = ne_eqb q.0 first.0 other in
      let back : (first.0 == q.0) ≡ false = ne_eqb first.0 q.0 (λ e. other (sym e)) in
      rw (filter-append (is_other first) rest (q ∷ []), there, back) refl)
]

-- a use adds its qubit, unless that is used before
pub used_more : (uses : List Qubit) (q : Qubit) → without_repeats (uses ++ q ∷ []) ≡ cond (is_listed q.0 uses) (without_repeats uses) (without_repeats uses ++ q ∷ [])
used_more [] q = refl
used_more (first ∷ uses) q = elim (cases_Bool (is_listed q.0 uses)) [
  | inl there ↦ rw (used_more uses q, there, or_true (first.0 == q.0)) refl
  | inr new ↦ rw (used_more uses q, new) (one_more first q (without_repeats uses))
]

pub added_again : (qubits : List Qubit) (flags : List Bool) (uses : List Qubit) (q : Qubit) → is_listed q.0 uses ≡ true → AreUsed qubits flags uses → AreUsed qubits flags (uses ++ q ∷ [])
added_again qubits flags uses q there are = record {
  order = are.order ∙ sym (used_more uses q ∙ ap (λ (b : Bool). cond b (without_repeats uses) (without_repeats uses ++ q ∷ [])) there);
  flagged = λ n h. are.flagged n h ∙ sym (stands_again n uses q there);
}

pub added_new : (qubits : List Qubit) (flags : List Bool) (uses : List Qubit) (q : Qubit) → q.0 < length flags → is_listed q.0 uses ≡ false → AreUsed qubits flags uses → AreUsed (qubits ++ q ∷ []) (set flags q.0 true) (uses ++ q ∷ [])
added_new qubits flags uses q h new are =
    let first : AreFlags flags (uses ++ []) = subst (AreFlags flags) (sym (append-nil uses)) are.flagged in
    record {
      order = ap (λ (l : List Qubit). l ++ q ∷ []) are.order ∙ sym (used_more uses q ∙ ap (λ (b : Bool). cond b (without_repeats uses) (without_repeats uses ++ q ∷ [])) new);
      flagged = flags_grown flags uses (q ∷ []) 0 q (omega arith) h first;
    }
