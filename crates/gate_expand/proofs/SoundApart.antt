-- Lists whose members all differ.
use Rattle.std.proofs.Common.{◌≡◌, ◌≢◌, ◌⊎◌, ℕ, zero, suc, ◌+◌, ◌<◌, ◌≤◌, List, [], ◌∷◌, ◌++◌, length, map, get_or, fold, cond, Bool, false, ◌==◌, All, AllPairs, inl, inr, ap, sym, ◌∙◌, subst, arith}
use Rattle.std.specs.List.{list_any}
use Rattle.std.proofs.lemmas.Bool.{or_parts, cond_both, cases_order, eqb-false}
use Rattle.std.proofs.lemmas.List.{get_or-map, length-map}
use Rattle.std.proofs.lemmas.List.Elements.{All-nil, All-cons, All-head, All-tail, All-get_or, All-push, All-map, All-weaker}
use Rattle.std.proofs.lemmas.List.Kept.{AllPairs-cons}
use Rattle.std.proofs.lemmas.List.Quantifiers.{all_pairs_push}
use Rattle.qc_base.specs.declared.ids.Qubit.{Qubit}
use Rattle.gate_expand.specs.declared.wires.Wires.{Wires}
use Rattle.gate_expand.specs.declared.wires.Wires.TheVariants.{One, Each}
use Rattle.gate_expand.specs.Arguments.{wire_at, qubit_at, has_number, repeats_at, repeats_from, is_qubit, with_qubit, all_in, each_from, with_all, distinct_qubits}
use Rattle.gate_names.specs.Declarations.{repeats_position, with_position}
use Rattle.gate_expand.specs.Expansion.{qubits_at}
use Rattle.gate_expand.proofs.Sound.{AreApart, IsBelow, IsQubit, AreWires}
use Rattle.gate_expand.proofs.SoundSteps.{fold_keeps}

pub none_apart : {X : Type 0} (P : X → Type 0) → AreApart P []
none_apart P = record { each = All-nil P; differ = λ i j d h l. absurd (omega arith) }

pub one_apart : {X : Type 0} (P : X → Type 0) (x : X) → P x → AreApart P (x ∷ [])
one_apart P x h = record { each = All-cons P x [] h (All-nil P); differ = λ i j d h l. absurd (omega arith) }

-- one that passes no test
pub none_passes : {X : Type 0} (test : X → Bool) (xs : List X) → list_any test xs ≡ false → All (λ (x : X). test x ≡ false) xs
none_passes test [] h = All-nil (λ x. test x ≡ false)
none_passes test (x ∷ xs) h =
    let parts = or_parts (test x) (list_any test xs) h in
    All-cons (λ y. test y ≡ false) x xs parts.0 (none_passes test xs parts.1)

-- a member more, unless it is there
pub with_apart : {X : Type 0} (P : X → Type 0) (same : X → X → Bool) → ((x y : X) → same x y ≡ false → x ≢ y)
    → (xs : List X) (x : X) → AreApart P xs → P x → AreApart P (cond (list_any (same x) xs) xs (xs ++ x ∷ []))
with_apart {X} P same tells xs x apart h =
    cond_both (list_any (same x) xs) xs (xs ++ x ∷ []) (AreApart P) (λ e. apart) (λ e. record {
      each = All-push P xs x apart.each h;
      differ = all_pairs_push (λ (a b : X). a ≢ b) xs x apart.differ
          (λ k d l is. tells x (get_or xs k d) (All-get_or (λ (y : X). same x y ≡ false) xs k d l (none_passes (same x) xs e)) (sym is));
    })

-- it is not empty
pub with_some : {X : Type 0} (same : X → X → Bool) (xs : List X) (x : X) → 1 ≤ length (cond (list_any (same x) xs) xs (xs ++ x ∷ []))
with_some same [] x = omega arith
with_some {X} same (y ∷ xs) x =
    cond_both (list_any (same x) (y ∷ xs)) (y ∷ xs) ((y ∷ xs) ++ x ∷ []) (λ (l : List X). 1 ≤ length l) (λ e. omega arith) (λ e. omega arith)

-- ---- positions

position_differs : (j k : ℕ) → (j == k) ≡ false → j ≢ k
position_differs j k h = eqb-false j k h

pub positions_apart : (count : ℕ) (positions : List ℕ) → All (IsBelow count) positions → repeats_position positions ≡ false → AreApart (IsBelow count) positions
positions_apart count positions below h = record { each = below; differ = differ positions h }
  where
    differ : (positions : List ℕ) → repeats_position positions ≡ false → AllPairs (λ (x y : ℕ). x ≢ y) positions
    differ [] h = λ i j d a l. absurd (omega arith)
    differ (k ∷ positions) h =
        let parts = or_parts (list_any (λ other. k == other) positions) (repeats_position positions) h in
        AllPairs-cons (λ (x y : ℕ). x ≢ y) k positions
        (All-weaker (λ (x : ℕ). (k == x) ≡ false) (λ (x : ℕ). k ≢ x) (λ x e. position_differs k x e) positions (none_passes (λ other. k == other) positions parts.0))
        (differ positions parts.1)

pub positions_folded : (count : ℕ) (positions : List ℕ) → All (IsBelow count) positions → AreApart (IsBelow count) (fold with_position [] positions)
positions_folded count positions below =
    fold_keeps (AreApart (IsBelow count)) (IsBelow count) with_position
    (λ s k apart h. with_apart (IsBelow count) (λ j k. j == k) position_differs s k apart h)
    positions [] (none_apart (IsBelow count)) below

pub positions_some : (positions : List ℕ) → 1 ≤ length positions → 1 ≤ length (fold with_position [] positions)
positions_some [] h = absurd (omega arith)
positions_some (k ∷ positions) h =
    fold_keeps (λ (s : List ℕ). 1 ≤ length s) (λ (k : ℕ). Unit {0}) with_position (λ s k a b. with_some (λ j k. j == k) s k)
    positions (with_position [] k) (with_some (λ j k. j == k) [] k) (λ i d l. tt)

-- ---- qubits at positions

module _ {X : Type 0} (xs : List X) (d : X) (apart : AllPairs (λ (x y : X). x ≢ y) xs) where
  pub places_differ : (i j : ℕ) → i < length xs → j < length xs → i ≢ j → get_or xs i d ≢ get_or xs j d
  places_differ i j hi hj ne same = elim (cases_order i j) [
    | inl e ↦ ne e
    | inr order ↦ elim order [
      | inl before ↦ apart i j d before hj same
      | inr after ↦ apart j i d after hi (sym same)
    ]
  ]

pub qubits_apart : (count : ℕ) (qubits : List Qubit) (positions : List ℕ) → AreApart (IsQubit count) qubits
    → AreApart (IsBelow (length qubits)) positions → AreApart (IsQubit count) (qubits_at qubits positions)
qubits_apart count qubits positions apart places = record {
  each = All-map (IsQubit count) at positions (λ k d l. All-get_or (IsQubit count) qubits (get_or positions k d) none (places.each k d l) apart.each);
  differ = λ i j d before l same.
      (let within : j < length positions = omega (arith, length-map positions at) in
      let first : i < length positions = omega arith in
      places_differ qubits none apart.differ (get_or positions i 0) (get_or positions j 0) (places.each i 0 first) (places.each j 0 within)
      (places.differ i j 0 before within)
      (sym (get_or-map at positions i 0 d first) ∙ same ∙ get_or-map at positions j 0 d within));
}
  where
    none : Qubit
    none = record { 0 = 0 }

    at : ℕ → Qubit
    at = λ k. get_or qubits k (record { 0 = 0 })

-- ---- wires at an index

number_differs : (index : ℕ) (wires : List Wires) (number : ℕ) → has_number index wires number ≡ false
    → All (λ (qubit : Qubit). record { 0 = number } ≢ qubit) (map (qubit_at index) wires)
number_differs index [] number h = All-nil (λ (qubit : Qubit). record { 0 = number } ≢ qubit)
number_differs index (wires ∷ more) number h =
    let parts = or_parts (wire_at index wires == number) (has_number index more number) h in
    All-cons (λ (qubit : Qubit). record { 0 = number } ≢ qubit) (qubit_at index wires) (map (qubit_at index) more)
    (λ same. eqb-false (wire_at index wires) number parts.0 (sym (ap (λ (q : Qubit). q.0) same)))
    (number_differs index more number parts.1)

pub wires_differ : (index : ℕ) (wires : List Wires) → repeats_at index wires ≡ false → AllPairs (λ (x y : Qubit). x ≢ y) (map (qubit_at index) wires)
wires_differ index [] h = λ i j d a l. absurd (omega arith)
wires_differ index (wires ∷ more) h =
    let parts = or_parts (has_number index more (wire_at index wires)) (repeats_at index more) h in
    AllPairs-cons (λ (x y : Qubit). x ≢ y) (qubit_at index wires) (map (qubit_at index) more)
    (number_differs index more (wire_at index wires) parts.0) (wires_differ index more parts.1)

pub never_repeats : (first count : ℕ) (wires : List Wires) → repeats_from first count wires ≡ false
    → (index : ℕ) → first ≤ index → index < first + count → repeats_at index wires ≡ false
never_repeats first zero wires h index low high = absurd (omega arith)
never_repeats first (suc count) wires h index low high =
    let parts = or_parts (repeats_at first wires) (repeats_from (first + 1) count wires) h in
    elim (cases_order first index) [
      | inl same ↦ subst (λ (n : ℕ). repeats_at n wires ≡ false) same parts.0
      | inr order ↦ elim order [
        | inl before ↦ never_repeats (first + 1) count wires parts.1 index (omega arith) (omega arith)
        | inr after ↦ absurd (omega arith)
      ]
    ]

-- ---- all qubits of wires

qubit_differs : (x y : Qubit) → is_qubit x y ≡ false → x ≢ y
qubit_differs x y h same = eqb-false x.0 y.0 h (ap (λ (q : Qubit). q.0) same)

each_below : (count first size : ℕ) → first + size ≤ count → All (IsQubit count) (each_from first size)
each_below count first zero h = All-nil (IsQubit count)
each_below count first (suc size) h =
    All-cons (IsQubit count) (record { 0 = first }) (each_from (first + 1) size) (omega arith) (each_below count (first + 1) size (omega arith))

all_below : (count : ℕ) (wires : Wires) → AreWires count wires → All (IsQubit count) (all_in wires)
all_below count (One number) h = All-cons (IsQubit count) (record { 0 = number }) [] h (All-nil (IsQubit count))
all_below count (Each first size) h = each_below count first size h.1

all_some : (count : ℕ) (wires : Wires) → AreWires count wires → 1 ≤ length (all_in wires)
all_some count (One number) h = omega arith
all_some count (Each first zero) h = absurd (omega arith)
all_some count (Each first (suc size)) h = omega arith

qubits_more : (qubits more : List Qubit) → (1 ≤ length qubits) ⊎ (1 ≤ length more) → 1 ≤ length (fold with_qubit qubits more)
qubits_more qubits [] (inl h) = h
qubits_more qubits [] (inr h) = absurd (omega arith)
qubits_more qubits (qubit ∷ more) h = qubits_more (with_qubit qubits qubit) more (inl (with_some is_qubit qubits qubit))

with_all_apart : (count : ℕ) (wires : List Wires) (qubits : List Qubit) → All (AreWires count) wires → AreApart (IsQubit count) qubits
    → AreApart (IsQubit count) (with_all qubits wires)
with_all_apart count [] qubits all apart = apart
with_all_apart count (wires ∷ more) qubits all apart =
    with_all_apart count more (fold with_qubit qubits (all_in wires)) (All-tail (AreWires count) wires more all)
    (fold_keeps (AreApart (IsQubit count)) (IsQubit count) with_qubit
    (λ s q apart h. with_apart (IsQubit count) is_qubit qubit_differs s q apart h)
    (all_in wires) qubits apart (all_below count wires (All-head (AreWires count) wires more all)))

with_all_some : (count : ℕ) (wires : List Wires) (qubits : List Qubit) → All (AreWires count) wires → (1 ≤ length qubits) ⊎ (1 ≤ length wires)
    → 1 ≤ length (with_all qubits wires)
with_all_some count [] qubits all (inl h) = h
with_all_some count [] qubits all (inr h) = absurd (omega arith)
with_all_some count (wires ∷ more) qubits all h =
    with_all_some count more (fold with_qubit qubits (all_in wires)) (All-tail (AreWires count) wires more all)
    (inl (qubits_more qubits (all_in wires) (inr (all_some count wires (All-head (AreWires count) wires more all)))))

pub distinct_apart : (count : ℕ) (wires : List Wires) → All (AreWires count) wires → AreApart (IsQubit count) (distinct_qubits wires)
distinct_apart count wires all = with_all_apart count wires [] all (none_apart (IsQubit count))

pub distinct_some : (count : ℕ) (wires : List Wires) → All (AreWires count) wires → 1 ≤ length wires → 1 ≤ length (distinct_qubits wires)
distinct_some count wires all h = with_all_some count wires [] all (inr h)
