-- Qubits below a number, of which none occurs twice: how many they are.
use Rattle.std.proofs.Common.{◌≡◌, ℕ, zero, suc, ◌+◌, ◌<◌, ◌≤◌, List, [], ◌∷◌, length, true, false, refl, sym, subst, ◌∙◌, inl, inr, arith}
use Rattle.std.specs.Prelude.{◌==◌, All}
use Rattle.std.proofs.lemmas.Bool.{eq-eqb, ne_eqb, cases_eq}
use Rattle.std.proofs.lemmas.List.Elements.{All-head, All-tail}
use Rattle.qc_base.specs.declared.ids.Qubit.{Qubit}
use Rattle.step_rules.specs.Placement.{times}

-- how often the qubits below the number are there together
abbrev total : ℕ → List Qubit → ℕ
total zero xs = 0
total (suc n) xs = times n xs + total n xs

total_nil : (n : ℕ) → total n [] ≡ 0
total_nil zero = refl
total_nil (suc n) = omega (arith, total_nil n)

total_out : (n : ℕ) (x : Qubit) (xs : List Qubit) → n ≤ x.0 → total n (x ∷ xs) ≡ total n xs
total_out zero x xs h = refl
total_out (suc n) x xs h =
    let there : (x.0 == n) ≡ false = ne_eqb x.0 n (λ e. omega arith) in
    rw there (omega (arith, total_out n x xs (omega arith)))

total_in : (n : ℕ) (x : Qubit) (xs : List Qubit) → x.0 < n → total n (x ∷ xs) ≡ 1 + total n xs
total_in zero x xs h = absurd (omega arith)
total_in (suc n) x xs h = elim (cases_eq x.0 n) [
  | inl same ↦ (let here : (x.0 == n) ≡ true = eq-eqb x.0 n same in rw here (omega (arith, total_out n x xs (omega arith))))
  | inr other ↦ (let there : (x.0 == n) ≡ false = ne_eqb x.0 n other in rw there (omega (arith, total_in n x xs (omega arith))))
]

total_length : (n : ℕ) (xs : List Qubit) → All (λ (qubit : Qubit). qubit.0 < n) xs → total n xs ≡ length xs
total_length n [] all = total_nil n
total_length n (x ∷ xs) all =
    let P : Qubit → Type 0 = λ q. q.0 < n in
    omega (arith, total_in n x xs (All-head P x xs all), total_length n xs (All-tail P x xs all))

total_most : (n : ℕ) (xs : List Qubit) → ((k : ℕ) → times k xs ≤ 1) → total n xs ≤ n
total_most zero xs once = omega arith
total_most (suc n) xs once = omega (arith, once n, total_most n xs once)

total_each : (n : ℕ) (xs : List Qubit) → ((k : ℕ) → k < n → times k xs ≡ 1) → total n xs ≡ n
total_each zero xs once = refl
total_each (suc n) xs once = omega (arith, once n (omega arith), total_each n xs (λ k h. once k (omega arith)))

each_once : (n : ℕ) (xs : List Qubit) → ((k : ℕ) → times k xs ≤ 1) → n ≤ total n xs → (k : ℕ) → k < n → times k xs ≡ 1
each_once zero xs once many k h = absurd (omega arith)
each_once (suc n) xs once many k h = elim (cases_eq k n) [
  | inl same ↦ subst (λ (m : ℕ). times m xs ≡ 1) (sym same) (omega (arith, once n, total_most n xs once))
  | inr other ↦ each_once n xs once (omega (arith, once n)) k (omega arith)
]

-- where none occurs twice, and there are no fewer, each occurs once
pub all_once : (n : ℕ) (xs : List Qubit) → All (λ (qubit : Qubit). qubit.0 < n) xs → ((k : ℕ) → times k xs ≤ 1) → n ≤ length xs → (k : ℕ) → k < n → times k xs ≡ 1
all_once n xs all once many k h = each_once n xs once (omega (arith, total_length n xs all)) k h

-- and where each occurs once, there are as many
pub counted : (n : ℕ) (xs : List Qubit) → All (λ (qubit : Qubit). qubit.0 < n) xs → ((k : ℕ) → k < n → times k xs ≡ 1) → length xs ≡ n
counted n xs all once = sym (total_length n xs all) ∙ total_each n xs once
