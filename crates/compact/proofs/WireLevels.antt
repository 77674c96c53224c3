-- Levels of the wires of an operation.
use Rattle.std.proofs.Common.{◌≡◌, ℕ, ◌≤◌, max, List, Some, refl, ap, inl, inr, arith}
use Rattle.std.specs.Prelude.{slice_index, ◌⊎◌, ◌↔◌}
use Rattle.circuit_core.specs.declared.op.Op.{Op}
use Rattle.circuit_core.specs.Circuit.{CircuitValue}
use Rattle.circuit_core.specs.Op.{bit_of, cond_of}
use Rattle.circuit_core.specs.Order.{Wire, on_qubit, on_bit, IsWire, IsTested}
use Rattle.compact.specs.declared.bits.Bits.{Bits}
use Rattle.compact.specs.Levels.{IsLevelOf, IsGreatest, AreRaised, WiresValue, wire_level, IsIn, HasQubit}
use Rattle.compact.proofs.Raising.{greatest_either, greatest_same, raised_twice}

abbrev IsQubitWire : Op → Wire → Type 0
IsQubitWire op (on_qubit qubit) = HasQubit op qubit
IsQubitWire op (on_bit bit) = ⊥

abbrev IsBitWire : Bits → Wire → Type 0
IsBitWire bits (on_qubit qubit) = ⊥
IsBitWire bits (on_bit bit) = IsIn bits bit

qubit_below : (op : Op) (levels : WiresValue) (greatest : ℕ) → IsGreatest (HasQubit op) (slice_index levels.qubits) greatest → (wire : Wire) → IsQubitWire op wire → wire_level levels wire ≤ greatest
qubit_below op levels greatest is (on_qubit qubit) it = is.above qubit it
qubit_below op levels greatest is (on_bit bit) it = absurd it

bit_below : (bits : Bits) (levels : WiresValue) (greatest : ℕ) → IsGreatest (IsIn bits) (slice_index levels.bits) greatest → (wire : Wire) → IsBitWire bits wire → wire_level levels wire ≤ greatest
bit_below bits levels greatest is (on_qubit qubit) it = absurd it
bit_below bits levels greatest is (on_bit bit) it = is.above bit it

qubit_wires : (op : Op) (levels : WiresValue) (greatest : ℕ) → IsGreatest (HasQubit op) (slice_index levels.qubits) greatest → IsGreatest (IsQubitWire op) (wire_level levels) greatest
qubit_wires op levels greatest is = record {
  above = λ wire it. qubit_below op levels greatest is wire it;
  reached = elim is.reached [
    | inl none ↦ inl none
    | inr at ↦ (let it : IsLevelOf (HasQubit op) (slice_index levels.qubits) greatest = at in inr (record { which = on_qubit it.which; is_on = it.is_on; is_level = it.is_level }))
  ];
}

bit_wires : (bits : Bits) (levels : WiresValue) (greatest : ℕ) → IsGreatest (IsIn bits) (slice_index levels.bits) greatest → IsGreatest (IsBitWire bits) (wire_level levels) greatest
bit_wires bits levels greatest is = record {
  above = λ wire it. bit_below bits levels greatest is wire it;
  reached = elim is.reached [
    | inl none ↦ inl none
    | inr at ↦ (let it : IsLevelOf (IsIn bits) (slice_index levels.bits) greatest = at in inr (record { which = on_bit it.which; is_on = it.is_on; is_level = it.is_level }))
  ];
}

-- a wire of the operation is of its qubits, the bit that it writes or those that it tests
which_wire : (circuit : CircuitValue) (op : Op) (writes tests : Bits) → ((bit : ℕ) → IsIn writes bit ↔ (bit_of op ≡ Some (record { 0 = bit }))) → ((bit : ℕ) → IsIn tests bit ↔ IsTested circuit (cond_of op) bit)
    → (wire : Wire) → IsWire circuit op wire → IsQubitWire op wire ⊎ (IsBitWire writes wire ⊎ IsBitWire tests wire)
which_wire circuit op writes tests written tested (on_qubit qubit) it = inl it
which_wire circuit op writes tests written tested (on_bit bit) (inl writes_it) = inr (inl ((written bit).1 writes_it))
which_wire circuit op writes tests written tested (on_bit bit) (inr tests_it) = inr (inr ((tested bit).1 tests_it))

of_qubits : (circuit : CircuitValue) (op : Op) (wire : Wire) → IsQubitWire op wire → IsWire circuit op wire
of_qubits circuit op (on_qubit qubit) it = it
of_qubits circuit op (on_bit bit) it = absurd it

of_writes : (circuit : CircuitValue) (op : Op) (writes : Bits) → ((bit : ℕ) → IsIn writes bit ↔ (bit_of op ≡ Some (record { 0 = bit }))) → (wire : Wire) → IsBitWire writes wire → IsWire circuit op wire
of_writes circuit op writes written (on_qubit qubit) it = absurd it
of_writes circuit op writes written (on_bit bit) it = inl ((written bit).0 it)

of_tests : (circuit : CircuitValue) (op : Op) (tests : Bits) → ((bit : ℕ) → IsIn tests bit ↔ IsTested circuit (cond_of op) bit) → (wire : Wire) → IsBitWire tests wire → IsWire circuit op wire
of_tests circuit op tests tested (on_qubit qubit) it = absurd it
of_tests circuit op tests tested (on_bit bit) it = inr ((tested bit).0 it)

-- the greatest of two sorts of wires
greatest_of_both : (first second : Wire → Type 0) (level : Wire → ℕ) (g h n : ℕ) → IsGreatest first level g → IsGreatest second level h → n ≡ max g h → IsGreatest (λ (wire : Wire). first wire ⊎ second wire) level n
greatest_of_both first second level g h n is_first is_second e =
    greatest_either first second level level Wire (λ (wire : Wire). first wire ⊎ second wire) level (λ wire. wire) (λ wire. wire) g h n (λ w. refl) (λ w. refl) (λ w it. inl it) (λ w it. inr it)
    (λ w it. elim it [
      | inl a ↦ inl (w, a, refl)
      | inr b ↦ inr (w, b, refl)
    ]) is_first is_second e

pub greatest_wires : (circuit : CircuitValue) (op : Op) (levels : WiresValue) (writes tests : Bits) (a b c n : ℕ) → ((bit : ℕ) → IsIn writes bit ↔ (bit_of op ≡ Some (record { 0 = bit }))) → ((bit : ℕ) → IsIn tests bit ↔ IsTested circuit (cond_of op) bit)
    → IsGreatest (HasQubit op) (slice_index levels.qubits) a → IsGreatest (IsIn writes) (slice_index levels.bits) b → IsGreatest (IsIn tests) (slice_index levels.bits) c → n ≡ max (max a b) c
    → IsGreatest (IsWire circuit op) (wire_level levels) n
greatest_wires circuit op levels writes tests a b c n written tested of_a of_b of_c e =
    let bits : IsGreatest (λ (wire : Wire). IsBitWire writes wire ⊎ IsBitWire tests wire) (wire_level levels) (max b c) =
    greatest_of_both (IsBitWire writes) (IsBitWire tests) (wire_level levels) b c (max b c) (bit_wires writes levels b of_b) (bit_wires tests levels c of_c) refl in
    let all : IsGreatest (λ (wire : Wire). IsQubitWire op wire ⊎ (IsBitWire writes wire ⊎ IsBitWire tests wire)) (wire_level levels) n =
    greatest_of_both (IsQubitWire op) (λ (wire : Wire). IsBitWire writes wire ⊎ IsBitWire tests wire) (wire_level levels) a (max b c) n (qubit_wires op levels a of_a) bits (omega arith) in
    greatest_same (λ (wire : Wire). IsQubitWire op wire ⊎ (IsBitWire writes wire ⊎ IsBitWire tests wire)) (IsWire circuit op) (wire_level levels) n
    (λ wire it. elim it [
      | inl q ↦ of_qubits circuit op wire q
      | inr other ↦ elim other [
        | inl w ↦ of_writes circuit op writes written wire w
        | inr t ↦ of_tests circuit op tests tested wire t
      ]
    ]) (which_wire circuit op writes tests written tested) all

-- ---- raising

qubits_raised : (op : Op) (old new : WiresValue) (level : ℕ) → AreRaised (HasQubit op) (slice_index old.qubits) (slice_index new.qubits) level → new.bits ≡ old.bits → AreRaised (IsQubitWire op) (wire_level old) (wire_level new) level
qubits_raised op old new level raised same (on_qubit qubit) = raised qubit
qubits_raised op old new level raised same (on_bit bit) = inr (λ it. it, ap (λ (l : List ℕ). slice_index l bit) same)

bits_raised : (bits : Bits) (old new : WiresValue) (level : ℕ) → AreRaised (IsIn bits) (slice_index old.bits) (slice_index new.bits) level → new.qubits ≡ old.qubits → AreRaised (IsBitWire bits) (wire_level old) (wire_level new) level
bits_raised bits old new level raised same (on_qubit qubit) = inr (λ it. it, ap (λ (l : List ℕ). slice_index l qubit) same)
bits_raised bits old new level raised same (on_bit bit) = raised bit

pub wires_raised : (circuit : CircuitValue) (op : Op) (qubits_old qubits_new bits_old bits_mid bits_new : List ℕ) (writes tests : Bits) (level : ℕ) → ((bit : ℕ) → IsIn writes bit ↔ (bit_of op ≡ Some (record { 0 = bit })))
    → ((bit : ℕ) → IsIn tests bit ↔ IsTested circuit (cond_of op) bit) → AreRaised (HasQubit op) (slice_index qubits_old) (slice_index qubits_new) level → AreRaised (IsIn writes) (slice_index bits_old) (slice_index bits_mid) level
    → AreRaised (IsIn tests) (slice_index bits_mid) (slice_index bits_new) level
    → AreRaised (IsWire circuit op) (wire_level (record { qubits = qubits_old; bits = bits_old })) (wire_level (record { qubits = qubits_new; bits = bits_new })) level
wires_raised circuit op qubits_old qubits_new bits_old bits_mid bits_new writes tests level written tested of_qubit of_write of_test =
    let old : WiresValue = record { qubits = qubits_old; bits = bits_old } in
    let one : WiresValue = record { qubits = qubits_new; bits = bits_old } in
    let two : WiresValue = record { qubits = qubits_new; bits = bits_mid } in
    let new : WiresValue = record { qubits = qubits_new; bits = bits_new } in
    let bits : AreRaised (λ (wire : Wire). IsBitWire writes wire ⊎ IsBitWire tests wire) (wire_level one) (wire_level new) level =
    raised_twice (IsBitWire writes) (IsBitWire tests) (λ (wire : Wire). IsBitWire writes wire ⊎ IsBitWire tests wire) (wire_level one) (wire_level two) (wire_level new) level (λ w it. inl it) (λ w it. inr it) (λ w it. it)
    (bits_raised writes one two level of_write refl) (bits_raised tests two new level of_test refl) in
    raised_twice (IsQubitWire op) (λ (wire : Wire). IsBitWire writes wire ⊎ IsBitWire tests wire) (IsWire circuit op) (wire_level old) (wire_level one) (wire_level new) level (of_qubits circuit op)
    (λ wire it. elim it [
      | inl w ↦ of_writes circuit op writes written wire w
      | inr t ↦ of_tests circuit op tests tested wire t
    ]) (which_wire circuit op writes tests written tested) (qubits_raised op old one level of_qubit refl) bits
