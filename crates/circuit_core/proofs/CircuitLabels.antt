-- The labels of a circuit's qubits and bits: their bytes, that they differ, and which qubit has one.
use Rattle.std.proofs.Common.{◌≡◌, ℕ, zero, suc, ◌+◌, ◌^◌, ◌<◌, ◌≤◌, ◌⊎◌, Bool, true, false, cond, List, [], ◌∷◌, ◌++◌, length, Option, Some, refl, sym, ap, subst, ◌∙◌, inl, inr, arith}
use Rattle.std.specs.Prelude.{All, find, slice_get}
use Rattle.std.specs.List.{range_with_len}
use Rattle.std.specs.Str.{bytes_eq}
use Rattle.std.proofs.lemmas.Bool.{both_ways, cases_Bool, cond-true, cond-false}
use Rattle.std.proofs.lemmas.Option.{same_Some, slice_get_within}
use Rattle.std.proofs.lemmas.List.Elements.{All-nil, All-cons, All-head, All-tail}
use Rattle.std.proofs.lemmas.Slice.Eq.{bytes_eq-Decides}
use Rattle.qc_base.specs.Spelling.{IsFree}
use Rattle.qc_base.specs.declared.ids.Bit.{Bit}
use Rattle.qc_base.specs.declared.ids.Qubit.{Qubit}
use Rattle.circuit_core.specs.declared.circuit.Reg.{Reg}
use Rattle.circuit_core.specs.Circuit.{CircuitValue, IsRegister, HaveNamesOfTheirOwn, IsCircuit, qubit_count, bit_count}
use Rattle.circuit_core.specs.Label.{label_in, labelled, is_label_byte}
use Rattle.circuit_core.proofs.RegisterLabels.{label_free_in, label_one_in}

-- ---- the registers of each kind

pub all_parts : {X : Type 0} (P : X → Type 0) (xs ys : List X) → All P (xs ++ ys) → All P xs × All P ys
all_parts P [] ys h = (All-nil P, h)
all_parts P (x ∷ xs) ys h =
    let rest = all_parts P xs ys (All-tail P x (xs ++ ys) h) in
    (All-cons P x xs (All-head P x (xs ++ ys) h) rest.0, rest.1)

get_left : {X : Type 0} (xs ys : List X) (k : ℕ) → k < length xs → slice_get (xs ++ ys) k ≡ slice_get xs k
get_left [] ys k h = absurd (omega arith)
get_left (x ∷ xs) ys zero h = refl
get_left (x ∷ xs) ys (suc k) h = get_left xs ys k (omega arith)

get_right : {X : Type 0} (xs ys : List X) (k n : ℕ) → length xs + k ≡ n → slice_get (xs ++ ys) n ≡ slice_get ys k
get_right [] ys k n e = let same : n ≡ k = omega arith in rw same refl
get_right (x ∷ xs) ys k zero e = absurd (omega arith)
get_right (x ∷ xs) ys k (suc n) e = get_right xs ys k n (omega arith)

names_left : (xs ys : List Reg) → HaveNamesOfTheirOwn (xs ++ ys) → HaveNamesOfTheirOwn xs
names_left xs ys names i j first second at also same =
    names i j first second (get_left xs ys i (slice_get_within xs i first at) ∙ at) (get_left xs ys j (slice_get_within xs j second also) ∙ also) same

names_right : (xs ys : List Reg) → HaveNamesOfTheirOwn (xs ++ ys) → HaveNamesOfTheirOwn ys
names_right xs ys names i j first second at also same =
    let one = names (length xs + i) (length xs + j) first second (get_right xs ys i (length xs + i) refl ∙ at) (get_right xs ys j (length xs + j) refl ∙ also) same in
    omega arith

pub qregs_are : (circuit : CircuitValue) → IsCircuit circuit → All IsRegister circuit.qregs
qregs_are circuit c = (all_parts IsRegister circuit.qregs circuit.cregs c.registers).0

pub cregs_are : (circuit : CircuitValue) → IsCircuit circuit → All IsRegister circuit.cregs
cregs_are circuit c = (all_parts IsRegister circuit.qregs circuit.cregs c.registers).1

few_qubits : (circuit : CircuitValue) (number : ℕ) → IsCircuit circuit → number < qubit_count circuit → number < 2 ^ 64
few_qubits circuit number c h = omega (arith, c.qubits)

few_bits : (circuit : CircuitValue) (number : ℕ) → IsCircuit circuit → number < bit_count circuit → number < 2 ^ 64
few_bits circuit number c h = omega (arith, c.bits)

-- ---- labels

pub label_free : (circuit : CircuitValue) (number sign : ℕ) → IsCircuit circuit → number < qubit_count circuit → is_label_byte sign ≡ false → IsFree sign (label_in circuit.qregs number)
label_free circuit number sign c h other = label_free_in sign circuit.qregs number other (qregs_are circuit c) (few_qubits circuit number c h) h

pub bit_label_free : (circuit : CircuitValue) (number sign : ℕ) → IsCircuit circuit → number < bit_count circuit → is_label_byte sign ≡ false → IsFree sign (label_in circuit.cregs number)
bit_label_free circuit number sign c h other = label_free_in sign circuit.cregs number other (cregs_are circuit c) (few_bits circuit number c h) h

pub label_one : (circuit : CircuitValue) (a b : ℕ) → IsCircuit circuit → a < qubit_count circuit → b < qubit_count circuit → label_in circuit.qregs a ≡ label_in circuit.qregs b → a ≡ b
label_one circuit a b c ha hb =
    label_one_in circuit.qregs a b (qregs_are circuit c) (names_left circuit.qregs circuit.cregs c.names) (few_qubits circuit a c ha) (few_qubits circuit b c hb) ha hb

pub bit_label_one : (circuit : CircuitValue) (a b : ℕ) → IsCircuit circuit → a < bit_count circuit → b < bit_count circuit → label_in circuit.cregs a ≡ label_in circuit.cregs b → a ≡ b
bit_label_one circuit a b c ha hb =
    label_one_in circuit.cregs a b (cregs_are circuit c) (names_right circuit.qregs circuit.cregs c.names) (few_bits circuit a c ha) (few_bits circuit b c hb) ha hb

pub one_qubit : (a b : Qubit) → a.0 ≡ b.0 → a ≡ b
one_qubit a b e = ap (λ (number : ℕ). record { 0 = number }) e

pub one_bit : (a b : Bit) → a.0 ≡ b.0 → a ≡ b
one_bit a b e = ap (λ (number : ℕ). record { 0 = number }) e

-- ---- the first number that passes a test

found_by : (b : Bool) (first number : ℕ) (rest : Option ℕ) → cond b (Some first) rest ≡ Some number → ((b ≡ true) × (first ≡ number)) ⊎ (rest ≡ Some number)
found_by true first number rest e = inl (refl, same_Some first number e)
found_by false first number rest e = inr e

find_there : (p : ℕ → Bool) (first count number : ℕ) → find p (range_with_len first count) ≡ Some number → (number < first + count) × (p number ≡ true)
find_there p first zero number e = absurd cc
find_there p first (suc count) number e =
    elim (found_by (p first) first number (find p (range_with_len (first + 1) count)) e) [
      | inl here ↦ (omega arith, subst (λ (k : ℕ). p k ≡ true) here.1 here.0)
      | inr later ↦ let there = find_there p (first + 1) count number later in (omega arith, there.1)
    ]

find_is : (p : ℕ → Bool) (first count number : ℕ) → first ≤ number → number < first + count → p number ≡ true
    → ((k : ℕ) → first ≤ k → k < first + count → p k ≡ true → k ≡ number) → find p (range_with_len first count) ≡ Some number
find_is p first zero number low high passes one = absurd (omega arith)
find_is p first (suc count) number low high passes one =
    elim (cases_Bool (p first)) [
      | inl is ↦ cond-true _ _ _ is ∙ ap (λ (k : ℕ). Some k) (one first (omega arith) (omega arith) is)
      | inr not_is ↦
          let later : first ≡ number → ⊥ = λ same. both_ways (p first) not_is (subst (λ (k : ℕ). p k ≡ true) (sym same) passes) in
          cond-false _ _ _ not_is ∙ find_is p (first + 1) count number (omega arith) (omega arith) passes (λ k above below is. one k (omega arith) (omega arith) is)
    ]

-- ---- the qubit that is written so

pub labelled_there : (circuit : CircuitValue) (text : List ℕ) (number : ℕ) → labelled circuit text ≡ Some number → (number < qubit_count circuit) × (label_in circuit.qregs number ≡ text)
labelled_there circuit text number e =
    let there = find_there (λ k. bytes_eq (label_in circuit.qregs k) text) 0 (qubit_count circuit) number e in
    (omega arith, (bytes_eq-Decides (label_in circuit.qregs number) text).0 there.1)

pub labelled_is : (circuit : CircuitValue) (text : List ℕ) (number : ℕ) → IsCircuit circuit → number < qubit_count circuit → label_in circuit.qregs number ≡ text → labelled circuit text ≡ Some number
labelled_is circuit text number c h e =
    find_is (λ k. bytes_eq (label_in circuit.qregs k) text) 0 (qubit_count circuit) number (omega arith) (omega arith) ((bytes_eq-Decides (label_in circuit.qregs number) text).1 e)
    (λ k low high is. label_one circuit k number c (omega arith) h ((bytes_eq-Decides (label_in circuit.qregs k) text).0 is ∙ sym e))
