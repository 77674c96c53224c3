-- Lists that are a placement are accepted.
use Rattle.std.proofs.Common.{◌≡◌, Bool, ℕ, zero, suc, ◌+◌, ◌<◌, ◌≤◌, List, [], ◌∷◌, ◌++◌, length, None, Some, Ok, false, refl, sym, arith, subst, inl, inr, append_assoc}
use Rattle.std.specs.Prelude.{◌==◌, not, find, slice_get, All}
use Rattle.std.specs.List.{range_with_len}
use Rattle.std.proofs.lemmas.Bool.{le-leb, cases_Bool, cases_lt, cond-true, eq-eqb, ne_eqb}
use Rattle.std.proofs.lemmas.List.Elements.{All-head, All-tail}
use Rattle.qc_base.specs.declared.ids.Qubit.{Qubit}
use Rattle.circuit_core.specs.Circuit.{CircuitValue, qubit_count}
use Rattle.circuit_core.specs.Deciding.{is_listed}
use Rattle.trap_parts.specs.Parts.{TrapValue}
use Rattle.trap_model.specs.Trap.{limit_of}
use Rattle.step_rules.specs.Placement.{IsPlacement, reading_order, times, first_repeated, zone_fault, zones_fault, missing_fault, placement_of}
use Rattle.step_rules.proofs.Reading.{times-append, times_none, times_some}

pub no_others : (n : ℕ) (xs : List Qubit) (k : ℕ) → All (λ (qubit : Qubit). qubit.0 < n) xs → n ≤ k → times k xs ≡ 0
no_others n [] k all h = refl
no_others n (x ∷ xs) k all h =
    let P : Qubit → Type 0 = λ q. q.0 < n in
    let small : x.0 < n = All-head P x xs all in
    let there : (x.0 == k) ≡ false = ne_eqb x.0 k (λ e. omega arith) in
    rw there (omega (arith, no_others n xs k (All-tail P x xs all) h))

pub at_most_once : (n : ℕ) (xs : List Qubit) → All (λ (qubit : Qubit). qubit.0 < n) xs → ((k : ℕ) → k < n → times k xs ≡ 1) → (k : ℕ) → times k xs ≤ 1
at_most_once n xs all once k = elim (cases_lt k n) [
  | inl h ↦ omega (arith, once k h)
  | inr h ↦ omega (arith, no_others n xs k all h)
]

times_here : (q : Qubit) (list : List Qubit) → 1 ≤ times q.0 (q ∷ list)
times_here q list = omega (arith, cond-true {A = ℕ} (q.0 == q.0) 1 0 (eq-eqb q.0 q.0 refl))

none_repeated : (before list : List Qubit) → ((k : ℕ) → times k (before ++ list) ≤ 1) → first_repeated before list ≡ None
none_repeated before [] once = refl
none_repeated before (q ∷ list) once =
    let same : (before ++ q ∷ []) ++ list ≡ before ++ q ∷ list = append_assoc before (q ∷ []) list in
    let later = none_repeated (before ++ q ∷ []) list (λ k. subst (λ (l : List Qubit). times k l ≤ 1) (sym same) (once k)) in
    elim (cases_Bool (is_listed q.0 before)) [
      | inl there ↦ absurd (omega (arith, times_some q.0 before there, times_here q list, times-append q.0 before (q ∷ list), once q.0))
      | inr new ↦ rw (new, later) refl
    ]

none_full : (trap : TrapValue) (zone : ℕ) (before list : List Qubit) → ((k : ℕ) → times k (before ++ list) ≤ 1) → length list ≤ limit_of trap zone → zone_fault trap zone before list ≡ None
none_full trap zone before list once room = rw (none_repeated before list once, le-leb _ _ room) refl

none_wrong : (trap : TrapValue) (zone : ℕ) (before : List Qubit) (lists : List (List Qubit)) → ((k : ℕ) → times k (before ++ reading_order lists) ≤ 1)
    → ((k : ℕ) (list : List Qubit) → slice_get lists k ≡ Some list → length list ≤ limit_of trap (zone + k)) → zones_fault trap zone before lists ≡ None
none_wrong trap zone before [] once room = refl
none_wrong trap zone before (list ∷ lists) once room =
    let same : (before ++ list) ++ reading_order lists ≡ before ++ (list ++ reading_order lists) = append_assoc before list (reading_order lists) in
    let all : (k : ℕ) → times k ((before ++ list) ++ reading_order lists) ≤ 1 = λ k. subst (λ (l : List Qubit). times k l ≤ 1) (sym same) (once k) in
    let here : zone + 0 ≡ zone = omega arith in
    let first = none_full trap zone before list (λ k. omega (arith, all k, times-append k (before ++ list) (reading_order lists))) (subst (λ (z : ℕ). length list ≤ limit_of trap z) here (room 0 list refl)) in
    let next : (k : ℕ) (other : List Qubit) → slice_get lists k ≡ Some other → length other ≤ limit_of trap (zone + 1 + k) =
    λ k other e. let there : zone + suc k ≡ zone + 1 + k = omega arith in subst (λ (z : ℕ). length other ≤ limit_of trap z) there (room (suc k) other e) in
    rw (first, none_wrong trap (zone + 1) (before ++ list) lists all next) refl

none_found : (test : ℕ → Bool) (first count : ℕ) → ((k : ℕ) → first ≤ k → k < first + count → test k ≡ false) → find test (range_with_len first count) ≡ None
none_found test first zero fails = refl
none_found test first (suc count) fails = rw (fails first (omega arith) (omega arith)) (none_found test (first + 1) count (λ k low high. fails k (omega (arith, low)) (omega (arith, high))))

stands_so : (k : ℕ) (list : List Qubit) → times k list ≡ 1 → not (is_listed k list) ≡ false
stands_so k list once = elim (cases_Bool (is_listed k list)) [
  | inl there ↦ rw there refl
  | inr missing ↦ absurd (omega (arith, once, times_none k list missing))
]

none_missing : (circuit : CircuitValue) (lists : List (List Qubit)) → ((k : ℕ) → k < qubit_count circuit → times k (reading_order lists) ≡ 1) → missing_fault circuit lists ≡ None
none_missing circuit lists once =
    let test : ℕ → Bool = λ number. not (is_listed number (reading_order lists)) in
    let none : find test (range_with_len 0 (qubit_count circuit)) ≡ None = none_found test 0 (qubit_count circuit) (λ k low high. stands_so k (reading_order lists) (once k (omega (arith, high)))) in
    rw none refl

pub placement_is : (trap : TrapValue) (circuit : CircuitValue) (lists : List (List Qubit)) → IsPlacement trap circuit lists → placement_of trap circuit lists ≡ Ok lists
placement_is trap circuit lists placed =
    let wrong = none_wrong trap 0 [] lists (at_most_once (qubit_count circuit) (reading_order lists) placed.qubits placed.once)
    (λ k list e. let same : k ≡ 0 + k = omega arith in subst (λ (z : ℕ). length list ≤ limit_of trap z) same (placed.room k list e)) in
    rw (wrong, none_missing circuit lists placed.once) refl
