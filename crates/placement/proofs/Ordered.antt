-- The orders of the filling rules have each qubit once.
use Rattle.std.proofs.Common.{◌≡◌, ℕ, zero, suc, ◌+◌, ◌<◌, ◌≤◌, List, [], ◌∷◌, ◌++◌, Bool, true, false, cond, ◌||◌, None, Some, refl, sym, ap, ◌∙◌, inl, inr, arith, map}
use Rattle.std.specs.Prelude.{◌==◌, All, Option}
use Rattle.std.specs.List.{flat_map, range_with_len, AllByRecursion}
use Rattle.std.proofs.lemmas.Bool.{eq-eqb, ne_eqb, cases_eq}
use Rattle.std.proofs.lemmas.List.Folds.{list_any-append}
use Rattle.std.proofs.lemmas.List.Elements.{All-nil, All-cons, All-head, All-tail, All-append, All-from_recursion}
use Rattle.qc_base.specs.declared.ids.Qubit.{Qubit}
use Rattle.circuit_core.specs.declared.op.Op.{Op}
use Rattle.circuit_core.specs.declared.op.Op.TheVariants.{U, Cx, Opaque, Measure, Reset, Barrier}
use Rattle.circuit_core.specs.Circuit.{CircuitValue, qubit_count, IsCircuit, IsOpOf}
use Rattle.circuit_core.specs.Op.{qubits_of, one_or_two}
use Rattle.circuit_core.specs.Deciding.{is_listed}
use Rattle.step_rules.specs.Placement.{times}
use Rattle.placement.specs.Filling.{qubit_of, declared_qubits}
use Rattle.placement.specs.FirstUse.{two_or_none, operands, by_first_use, without_repeats}
use Rattle.placement.specs.Orders.{IsOrder}
use Rattle.placement.proofs.Uses.{times_once, all_used}

-- ---- declared order

abbrev row : ℕ → ℕ → List Qubit
row first count = map qubit_of (range_with_len first count)

times_before : (first count k : ℕ) → k < first → times k (row first count) ≡ 0
times_before first zero k h = refl
times_before first (suc count) k h =
    let there : (first == k) ≡ false = ne_eqb first k (omega arith) in
    rw there (omega (arith, times_before (first + 1) count k (omega arith)))

times_in : (first count k : ℕ) → first ≤ k → k < first + count → times k (row first count) ≡ 1
times_in first zero k low high = absurd (omega arith)
times_in first (suc count) k low high = elim (cases_eq first k) [
  | inl same ↦ (let here : (first == k) ≡ true = eq-eqb first k same in rw here (omega (arith, times_before (first + 1) count k (omega arith))))
  | inr other ↦ (let there : (first == k) ≡ false = ne_eqb first k other in rw there (omega (arith, times_in (first + 1) count k (omega arith) (omega arith))))
]

row_below : (first count limit : ℕ) → first + count ≤ limit → AllByRecursion (λ (q : Qubit). q.0 < limit) (row first count)
row_below first zero limit h = tt
row_below first (suc count) limit h = (omega arith, row_below (first + 1) count limit (omega arith))

declared_below : (circuit : CircuitValue) → All (λ (q : Qubit). q.0 < qubit_count circuit) (declared_qubits circuit)
declared_below circuit = All-from_recursion _ _ (row_below 0 (qubit_count circuit) (qubit_count circuit) (omega arith))

pub declared_order : (circuit : CircuitValue) → IsOrder circuit (declared_qubits circuit)
declared_order circuit = record { below = declared_below circuit; once = λ k h. times_in 0 (qubit_count circuit) k (omega arith) (omega arith) }

-- ---- the order of first use

two_below : (P : Qubit → Type 0) (first : Qubit) (second : Option Qubit) → All P (one_or_two first second) → All P (two_or_none first second)
two_below P first None all = All-nil P
two_below P first (Some second) all = all

pub operands_below : (P : Qubit → Type 0) (op : Op) → All P (qubits_of op) → All P (operands op)
operands_below P (Cx control target cond) all = all
operands_below P (Opaque name params first second cond) all = two_below P first second all
operands_below P (U theta phi lambda qubit cond) all = All-nil P
operands_below P (Measure qubit bit cond) all = All-nil P
operands_below P (Reset qubit cond) all = All-nil P
operands_below P (Barrier qubits) all = All-nil P

uses_below : (circuit : CircuitValue) (ops : List Op) → All (IsOpOf circuit) ops → All (λ (q : Qubit). q.0 < qubit_count circuit) (flat_map operands ops)
uses_below circuit [] all = All-nil (λ (q : Qubit). q.0 < qubit_count circuit)
uses_below circuit (op ∷ ops) all =
    let P : Qubit → Type 0 = λ q. q.0 < qubit_count circuit in
    All-append P (operands op) (flat_map operands ops) (operands_below P op (All-head (IsOpOf circuit) op ops all).qubits) (uses_below circuit ops (All-tail (IsOpOf circuit) op ops all))

stands_in : (first count k : ℕ) → first ≤ k → k < first + count → is_listed k (row first count) ≡ true
stands_in first zero k low high = absurd (omega arith)
stands_in first (suc count) k low high = elim (cases_eq first k) [
  | inl same ↦ rw (eq-eqb first k same) refl
  | inr other ↦ rw (ne_eqb first k other) (stands_in (first + 1) count k (omega arith) (omega arith))
]

or_true : (a b : Bool) → b ≡ true → (a || b) ≡ true
or_true true b e = refl
or_true false b e = e

all_stand : (circuit : CircuitValue) (uses : List Qubit) (k : ℕ) → k < qubit_count circuit → is_listed k (uses ++ declared_qubits circuit) ≡ true
all_stand circuit uses k h =
    list_any-append (λ (q : Qubit). q.0 == k) uses (declared_qubits circuit)
    ∙ or_true (is_listed k uses) (is_listed k (declared_qubits circuit)) (stands_in 0 (qubit_count circuit) k (omega arith) (omega arith))

pub first_use_order : (circuit : CircuitValue) → IsCircuit circuit → IsOrder circuit (by_first_use circuit)
first_use_order circuit is =
    let P : Qubit → Type 0 = λ q. q.0 < qubit_count circuit in
    let uses : List Qubit = flat_map operands circuit.ops in
    record {
      below = all_used P (uses ++ declared_qubits circuit) (All-append P uses (declared_qubits circuit) (uses_below circuit circuit.ops is.ops) (declared_below circuit));
      once = λ k h. times_once k (uses ++ declared_qubits circuit) ∙ ap (λ (b : Bool). cond b 1 0) (all_stand circuit uses k h);
    }
