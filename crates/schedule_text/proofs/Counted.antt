-- The qubits below a number that are left where none occurs twice.
use Rattle.std.proofs.Common.{◌≡◌, ℕ, zero, suc, ◌+◌, ◌<◌, ◌≤◌, List, [], ◌∷◌, ◌++◌, length, Bool, true, false, cond, refl, sym, subst, ◌∙◌, inl, inr, arith, length-append}
use Rattle.std.specs.Prelude.{◌==◌, All}
use Rattle.std.proofs.lemmas.Bool.{eq-eqb, ne_eqb, cases_eq}
use Rattle.std.proofs.lemmas.List.Elements.{All-nil, All-cons, All-append, All-weaker}
use Rattle.qc_base.specs.declared.ids.Qubit.{Qubit}
use Rattle.circuit_core.specs.Deciding.{is_listed}
use Rattle.step_rules.proofs.Accepted.{no_others}
use Rattle.step_rules.specs.Placement.{times}
use Rattle.step_rules.proofs.Counted.{counted}
use Rattle.step_rules.proofs.Reading.{times-append, times_none, times_some}

abbrev qubit_at : ℕ → Qubit
qubit_at n = record { 0 = n }

abbrev unless : Bool → Qubit → List Qubit → List Qubit
unless there x xs = cond there xs (x ∷ xs)

-- the qubits below the number that are not there
abbrev pub left_of : ℕ → List Qubit → List Qubit
left_of zero xs = []
left_of (suc n) xs = unless (is_listed n xs) (qubit_at n) (left_of n xs)

unless_all : (P : Qubit → Type 0) (b : Bool) (x : Qubit) (xs : List Qubit) → P x → All P xs → All P (unless b x xs)
unless_all P true x xs p all = all
unless_all P false x xs p all = All-cons P x xs p all

pub left_below : (n : ℕ) (xs : List Qubit) → All (λ (qubit : Qubit). qubit.0 < n) (left_of n xs)
left_below zero xs = All-nil (λ (qubit : Qubit). qubit.0 < 0)
left_below (suc n) xs =
    let P : Qubit → Type 0 = λ q. q.0 < n in
    let Q : Qubit → Type 0 = λ q. q.0 < suc n in
    unless_all Q (is_listed n xs) (qubit_at n) (left_of n xs) (omega arith) (All-weaker P Q (λ x h. omega arith) (left_of n xs) (left_below n xs))

last_left : (n : ℕ) (xs : List Qubit) (b : Bool) → is_listed n xs ≡ b → times n xs ≤ 1 → times n (unless b (qubit_at n) (left_of n xs)) + times n xs ≡ 1
last_left n xs true there once = omega (arith, no_others n (left_of n xs) n (left_below n xs) (omega arith), times_some n xs there)
last_left n xs false there once =
    let here : (n == n) ≡ true = eq-eqb n n refl in
    rw here (omega (arith, no_others n (left_of n xs) n (left_below n xs) (omega arith), times_none n xs there))

unless_other : (n k : ℕ) (xs : List Qubit) (b : Bool) → (n ≡ k → ⊥) → times k (unless b (qubit_at n) xs) ≡ times k xs
unless_other n k xs true other = refl
unless_other n k xs false other = let there : (n == k) ≡ false = ne_eqb n k other in rw there (omega arith)

left_once : (n : ℕ) (xs : List Qubit) (k : ℕ) → k < n → times k xs ≤ 1 → times k (left_of n xs) + times k xs ≡ 1
left_once zero xs k h once = absurd (omega arith)
left_once (suc n) xs k h once = elim (cases_eq n k) [
  | inl same ↦ subst (λ (m : ℕ). times m (left_of (suc n) xs) + times m xs ≡ 1) same (last_left n xs (is_listed n xs) refl (subst (λ (m : ℕ). times m xs ≤ 1) (sym same) once))
  | inr other ↦ omega (arith, unless_other n k (left_of n xs) (is_listed n xs) other, left_once n xs k (omega arith) once)
]

-- with them, each occurs once
pub filled_once : (n : ℕ) (xs : List Qubit) → ((k : ℕ) → times k xs ≤ 1) → (k : ℕ) → k < n → times k (xs ++ left_of n xs) ≡ 1
filled_once n xs once k h = omega (arith, times-append k xs (left_of n xs), left_once n xs k h (once k))

pub filled_below : (n : ℕ) (xs : List Qubit) → All (λ (qubit : Qubit). qubit.0 < n) xs → All (λ (qubit : Qubit). qubit.0 < n) (xs ++ left_of n xs)
filled_below n xs all = All-append (λ (qubit : Qubit). qubit.0 < n) xs (left_of n xs) all (left_below n xs)

pub filled_length : (n : ℕ) (xs : List Qubit) → All (λ (qubit : Qubit). qubit.0 < n) xs → ((k : ℕ) → times k xs ≤ 1) → length xs + length (left_of n xs) ≡ n
filled_length n xs all once = sym (length-append xs (left_of n xs)) ∙ counted n (xs ++ left_of n xs) (filled_below n xs all) (filled_once n xs once)
