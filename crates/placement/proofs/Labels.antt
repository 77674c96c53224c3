-- The qubits that labels name.
use Rattle.std.proofs.Common.{◌≡◌, ℕ, zero, suc, ◌+◌, ◌<◌, ◌≤◌, List, [], ◌∷◌, ◌++◌, length, get_or, take, drop, Bool, true, false, cond, None, Some, Ok, Err, refl, sym, ap, subst, ◌∙◌, inl, inr, arith, append_assoc}
use Rattle.std.specs.Prelude.{All, Option, Result, find}
use Rattle.std.specs.List.{range_with_len}
use Rattle.std.specs.Option.{option_map, ok_or}
use Rattle.std.specs.Str.{bytes_eq}
use Rattle.std.proofs.lemmas.Bool.{cases_Bool}
use Rattle.std.proofs.lemmas.List.{append-nil, drop_more}
use Rattle.std.proofs.lemmas.List.Elements.{All-nil, All-cons, All-append}
use Rattle.std.proofs.lemmas.Option.{same_Some, none-some}
use Rattle.qc_base.specs.declared.ids.Qubit.{Qubit}
use Rattle.circuit_core.specs.Circuit.{CircuitValue, qubit_count}
use Rattle.circuit_core.specs.Label.{labelled, label_in}
use Rattle.step_rules.specs.Placement.{reading_order}
use Rattle.placement.specs.declared.fault.PlaceFault.{PlaceFault}
use Rattle.placement.specs.declared.fault.PlaceFault.TheVariants.{UnknownQubit}
use Rattle.placement.specs.Filling.{qubit_of}
use Rattle.placement.specs.Faults.{◌>>=◌}
use Rattle.placement.specs.Named.{qubit_named, qubits_named, lists_named}

-- ---- what is named is there

-- a step that gave a value
pub record Made {A B : Type 0} (said : Result A PlaceFault) (next : A → Result B PlaceFault) (y : B) : Type 0 where
  pub x : A
  pub is : said ≡ Ok x
  pub made : next x ≡ Ok y

pub made : {A B : Type 0} (said : Result A PlaceFault) (next : A → Result B PlaceFault) (y : B) → said >>= next ≡ Ok y → Made said next y
made (Ok x) next y e = record { x = x; is = refl; made = e }
made (Err fault) next y e = absurd cc

same_Ok : {A : Type 0} (x y : A) → let f : Result A PlaceFault = Ok x in f ≡ Ok y → x ≡ y
same_Ok x y e = cc

found_below : (p : ℕ → Bool) (first count k : ℕ) → find p (range_with_len first count) ≡ Some k → k < first + count
found_below p first zero k e = absurd (none-some k e)
found_below p first (suc count) k e = elim (cases_Bool (p first)) [
  | inl here ↦ (let same : Some first ≡ Some k = sym (ap (λ (b : Bool). cond b (Some first) (find p (range_with_len (first + 1) count))) here) ∙ e in omega (arith, same_Some first k same))
  | inr there ↦ (let later : find p (range_with_len (first + 1) count) ≡ Some k = sym (ap (λ (b : Bool). cond b (Some first) (find p (range_with_len (first + 1) count))) there) ∙ e in omega (arith, found_below p (first + 1) count k later))
]

named_of : (circuit : CircuitValue) (fault : PlaceFault) (found : Option ℕ) (q : Qubit) → ok_or (option_map qubit_of found) fault ≡ Ok q → found ≡ Some q.0
named_of circuit fault None q e = absurd cc
named_of circuit fault (Some k) q e = ap (λ (q : Qubit). Some q.0) (same_Ok (qubit_of k) q e)

named_below : (circuit : CircuitValue) (zone : ℕ) (label : List ℕ) (q : Qubit) → qubit_named circuit zone label ≡ Ok q → q.0 < qubit_count circuit
named_below circuit zone label q e =
    omega (arith, found_below (λ number. bytes_eq (label_in circuit.qregs number) label) 0 (qubit_count circuit) q.0 (named_of circuit (UnknownQubit (record { 0 = zone }) label) (labelled circuit label) q e))

list_below : (circuit : CircuitValue) (zone : ℕ) (labels : List (List ℕ)) (qubits : List Qubit) → qubits_named circuit zone labels ≡ Ok qubits → All (λ (q : Qubit). q.0 < qubit_count circuit) qubits
list_below circuit zone [] qubits e =
    let P : Qubit → Type 0 = λ q. q.0 < qubit_count circuit in
    subst (All P) (same_Ok [] qubits e) (All-nil P)
list_below circuit zone (label ∷ labels) qubits e =
    let P : Qubit → Type 0 = λ q. q.0 < qubit_count circuit in
    let a = made (qubit_named circuit zone label) (λ q. qubits_named circuit zone labels >>= (λ more. Ok (q ∷ more))) qubits e in
    let b = made (qubits_named circuit zone labels) (λ more. Ok (a.x ∷ more)) qubits a.made in
    subst (All P) (same_Ok (a.x ∷ b.x) qubits b.made) (All-cons P a.x b.x (named_below circuit zone label a.x a.is) (list_below circuit zone labels b.x b.is))

-- the lists of a table: one for each zone, of qubits of the circuit
pub record AreNamed (circuit : CircuitValue) (table : List (List (List ℕ))) (lists : List (List Qubit)) : Type 0 where
  pub zones : length lists ≡ length table
  pub below : All (λ (q : Qubit). q.0 < qubit_count circuit) (reading_order lists)

pub are_named : (circuit : CircuitValue) (zone : ℕ) (table : List (List (List ℕ))) (lists : List (List Qubit)) → lists_named circuit zone table ≡ Ok lists → AreNamed circuit table lists
are_named circuit zone [] lists e =
    subst (AreNamed circuit []) (same_Ok [] lists e) (record { zones = refl; below = All-nil (λ (q : Qubit). q.0 < qubit_count circuit) })
are_named circuit zone (labels ∷ table) lists e =
    let P : Qubit → Type 0 = λ q. q.0 < qubit_count circuit in
    let a = made (qubits_named circuit zone labels) (λ qubits. lists_named circuit (zone + 1) table >>= (λ more. Ok (qubits ∷ more))) lists e in
    let b = made (lists_named circuit (zone + 1) table) (λ more. Ok (a.x ∷ more)) lists a.made in
    let more = are_named circuit (zone + 1) table b.x b.is in
    subst (AreNamed circuit (labels ∷ table)) (same_Ok (a.x ∷ b.x) lists b.made) (record {
      zones = ap suc more.zones;
      below = All-append P a.x (reading_order b.x) (list_below circuit zone labels a.x a.is) more.below;
    })

-- ---- so far, and the rest

abbrev pub with_front : {X : Type 0} → List X → Result (List X) PlaceFault → Result (List X) PlaceFault
with_front front (Ok rest) = Ok (front ++ rest)
with_front front (Err fault) = Err fault

grown : {X : Type 0} (front : List X) (x : X) (rest : Result (List X) PlaceFault) → with_front (front ++ x ∷ []) rest ≡ with_front front (rest >>= (λ more. Ok (x ∷ more)))
grown front x (Ok rest) = ap Ok (append_assoc front (x ∷ []) rest)
grown front x (Err fault) = refl

pub label_next : (circuit : CircuitValue) (zone : ℕ) (labels : List (List ℕ)) (i : ℕ) (d : List ℕ) (front : List Qubit) (q : Qubit) → i < length labels → qubit_named circuit zone (get_or labels i d) ≡ Ok q
    → with_front (front ++ q ∷ []) (qubits_named circuit zone (drop (i + 1) labels)) ≡ with_front front (qubits_named circuit zone (drop i labels))
label_next circuit zone labels i d front q h e =
    grown front q (qubits_named circuit zone (drop (i + 1) labels))
    ∙ sym (ap (λ (l : List (List ℕ)). with_front front (qubits_named circuit zone l)) (drop_more labels i d h) ∙ ap (λ (r : Result Qubit PlaceFault). with_front front (r >>= (λ q. qubits_named circuit zone (drop (i + 1) labels) >>= (λ more. Ok (q ∷ more))))) e)

pub label_unknown : (circuit : CircuitValue) (zone : ℕ) (labels : List (List ℕ)) (i : ℕ) (d : List ℕ) (front : List Qubit) (fault : PlaceFault) → i < length labels → qubit_named circuit zone (get_or labels i d) ≡ Err fault
    → with_front front (qubits_named circuit zone (drop i labels)) ≡ Err fault
label_unknown circuit zone labels i d front fault h e =
    ap (λ (l : List (List ℕ)). with_front front (qubits_named circuit zone l)) (drop_more labels i d h) ∙ ap (λ (r : Result Qubit PlaceFault). with_front front (r >>= (λ q. qubits_named circuit zone (drop (i + 1) labels) >>= (λ more. Ok (q ∷ more))))) e

pub zone_next : (circuit : CircuitValue) (table : List (List (List ℕ))) (zone : ℕ) (d : List (List ℕ)) (front : List (List Qubit)) (qubits : List Qubit) → zone < length table → qubits_named circuit zone (get_or table zone d) ≡ Ok qubits
    → with_front (front ++ qubits ∷ []) (lists_named circuit (zone + 1) (drop (zone + 1) table)) ≡ with_front front (lists_named circuit zone (drop zone table))
zone_next circuit table zone d front qubits h e =
    grown front qubits (lists_named circuit (zone + 1) (drop (zone + 1) table))
    ∙ sym (ap (λ (l : List (List (List ℕ))). with_front front (lists_named circuit zone l)) (drop_more table zone d h)
    ∙ ap (λ (r : Result (List Qubit) PlaceFault). with_front front (r >>= (λ q. lists_named circuit (zone + 1) (drop (zone + 1) table) >>= (λ more. Ok (q ∷ more))))) e)

pub zone_unknown : (circuit : CircuitValue) (table : List (List (List ℕ))) (zone : ℕ) (d : List (List ℕ)) (front : List (List Qubit)) (fault : PlaceFault) → zone < length table → qubits_named circuit zone (get_or table zone d) ≡ Err fault
    → with_front front (lists_named circuit zone (drop zone table)) ≡ Err fault
zone_unknown circuit table zone d front fault h e =
    ap (λ (l : List (List (List ℕ))). with_front front (lists_named circuit zone l)) (drop_more table zone d h)
    ∙ ap (λ (r : Result (List Qubit) PlaceFault). with_front front (r >>= (λ q. lists_named circuit (zone + 1) (drop (zone + 1) table) >>= (λ more. Ok (q ∷ more))))) e
