-- What the tables of the last operations say of the next operation.
use Rattle.std.proofs.Common.{◌≡◌, ℕ, zero, suc, ◌+◌, ◌-◌, ◌<◌, ◌≤◌, List, [], ◌∷◌, ◌++◌, length, get_or, take, drop, Some, None, refl, sym, ap, subst, ◌∙◌, inl, inr, arith}
use Rattle.std.specs.Prelude.{Option, slice_get, ◌⊎◌}
use Rattle.std.specs.List.{flat_map}
use Rattle.std.specs.Option.{option_to_list}
use Rattle.std.proofs.lemmas.Bool.{cases_lt, lt-ltb, cond-true}
use Rattle.std.proofs.lemmas.Option.{same_Some, none-some, slice_get_within, slice_get-get_or, get_or_from_slice_get, cond_some}
use Rattle.std.proofs.lemmas.List.{get_or-take, get_or-drop, length-take, length-drop, take_more, flat_map_more}
use Rattle.std.proofs.lemmas.List.Elements.{Contains-append_left, Contains-append_right, Contains-append_cases}
use Rattle.qc_base.specs.declared.ids.OpId.{OpId}
use Rattle.qc_base.specs.declared.ids.Qubit.{Qubit}
use Rattle.circuit_core.specs.declared.bits.BitRange.{BitRange}
use Rattle.circuit_core.specs.declared.last_ops.LastOps.{LastOps}
use Rattle.circuit_core.specs.declared.op.Op.{Op}
use Rattle.circuit_core.specs.Circuit.{CircuitValue, IsCircuit, IsOpOf, bit_count}
use Rattle.circuit_core.specs.Op.{qubits_of, bit_of, cond_of}
use Rattle.circuit_core.specs.Order.{Wire, on_qubit, on_bit, IsWire, IsTested, IsBarrierAt, Forced, by_wire, by_barrier, IsReached}
use Rattle.circuit_core.specs.Deciding.{written, tested}
use Rattle.circuit_core.specs.Nearest.{IsListed, AreNearest}
use Rattle.circuit_core.specs.LastOps.{IsIn, IsNoted, HasQubit, Writes, Tests, ActsOn, IsLastOn, IsLastTable, AreLast, later, last_on_qubits, later_than, last_on_bits, right_before}
use Rattle.circuit_core.proofs.Lists.{slice_pushed}
use Rattle.circuit_core.proofs.Wires.{qubit_at, written_in, in_written, tested_in, in_tested}
use Rattle.circuit_core.proofs.Registers.{IsBlock, block_written, block_tested}
use Rattle.circuit_core.proofs.Noted.{numbered, noted_same, table_more}

-- ---- lists of operations

-- the element of the list that the operation comes from
record Found {X : Type 0} (f : X → List OpId) (xs : List X) (number : ℕ) : Type 0 where
  k : ℕ
  element : X
  at : slice_get xs k ≡ Some element
  listed : IsListed (f element) number

found_later : {X : Type 0} (f : X → List OpId) (x : X) (xs : List X) (number : ℕ) → Found f xs number → Found f (x ∷ xs) number
found_later f x xs number found = record { k = suc found.k; element = found.element; at = found.at; listed = found.listed }

found_in : {X : Type 0} (f : X → List OpId) (xs : List X) (number : ℕ) → IsListed (flat_map f xs) number → Found f xs number
found_in f [] number listed = absurd (omega (arith, listed.1))
found_in f (x ∷ xs) number listed = elim (Contains-append_cases (f x) (flat_map f xs) (numbered number) listed) [
  | inl here ↦ record { k = 0; element = x; at = refl; listed = here }
  | inr rest ↦ found_later f x xs number (found_in f xs number rest)
]

listed_in : {X : Type 0} (f : X → List OpId) (xs : List X) (k : ℕ) (x : X) (number : ℕ) → slice_get xs k ≡ Some x → IsListed (f x) number → IsListed (flat_map f xs) number
listed_in f [] k x number at listed = absurd (none-some x at)
listed_in f (first ∷ xs) zero x number at listed = Contains-append_left (f first) (flat_map f xs) (numbered number) (subst (λ y. IsListed (f y) number) (sym (same_Some first x at)) listed)
listed_in f (first ∷ xs) (suc k) x number at listed = Contains-append_right (f first) (flat_map f xs) (numbered number) (listed_in f xs k x number at listed)

option_listed : (op : Option OpId) (number : ℕ) → IsListed (option_to_list op) number → op ≡ Some (numbered number)
option_listed None number listed = absurd (omega (arith, listed.1))
option_listed (Some op) number (zero, within, is) = ap Some is
option_listed (Some op) number (suc k, within, is) = absurd (omega arith)

listed_option : (op : Option OpId) (number : ℕ) → op ≡ Some (numbered number) → IsListed (option_to_list op) number
listed_option op number is = subst (λ (o : Option OpId). IsListed (option_to_list o) number) (sym is) (0, omega arith, refl)

-- ---- what an entry says

acts_before : (circuit : CircuitValue) (acts : Op → ℕ → Type 0) (count wire number : ℕ) (last : Option OpId) → IsLastOn circuit acts count wire last → last ≡ Some (numbered number) → (number < count) × ActsOn circuit acts wire number
acts_before circuit acts count wire number None is e = absurd (none-some (numbered number) e)
acts_before circuit acts count wire number (Some last) is e =
    let same : last.0 ≡ number = ap (λ (o : OpId). o.0) (same_Some last (numbered number) e) in
    (omega (arith, is.0, same), subst (ActsOn circuit acts wire) same is.1)

-- the entry is that operation or a later one
record Covers (circuit : CircuitValue) (acts : Op → ℕ → Type 0) (wire number : ℕ) (last : Option OpId) : Type 0 where
  by : ℕ
  is : last ≡ Some (numbered by)
  on : ActsOn circuit acts wire by
  order : number ≤ by

covers : (circuit : CircuitValue) (acts : Op → ℕ → Type 0) (count wire number : ℕ) (last : Option OpId) → IsLastOn circuit acts count wire last → number < count → ActsOn circuit acts wire number → Covers circuit acts wire number last
covers circuit acts count wire number None is h on = absurd (is number h on)
covers circuit acts count wire number (Some last) is h on = elim (cases_lt last.0 number) [
  | inl after ↦ absurd (is.2 number after h on)
  | inr order ↦ record { by = last.0; is = refl; on = is.1; order = order }
]

forced_on : (circuit : CircuitValue) (i j : ℕ) (first second : Op) (wire : Wire) → i < j → slice_get circuit.ops i ≡ Some first → slice_get circuit.ops j ≡ Some second → IsWire circuit first wire → IsWire circuit second wire → Forced circuit i j
forced_on circuit i j first second wire h at_i at_j of_first of_second = by_wire i j h (record { first = first; second = second; wire = wire; at_i = at_i; at_j = at_j; of_first = of_first; of_second = of_second })

-- the operation is that one, or has to come before it
reached_by : (circuit : CircuitValue) (i j : ℕ) (first second : Op) (wire : Wire) → i ≤ j → slice_get circuit.ops i ≡ Some first → slice_get circuit.ops j ≡ Some second → IsWire circuit first wire → IsWire circuit second wire → (i ≡ j) ⊎ Forced circuit i j
reached_by circuit i j first second wire h at_i at_j of_first of_second = elim (cases_lt i j) [
  | inl before ↦ inr (forced_on circuit i j first second wire before at_i at_j of_first of_second)
  | inr after ↦ inl (omega arith)
]

-- ---- qubits

qubits_sound : (circuit : CircuitValue) (j : ℕ) (op : Op) (table : List (Option OpId)) (number : ℕ) → slice_get circuit.ops j ≡ Some op → IsLastTable circuit HasQubit j table → IsListed (last_on_qubits table (qubits_of op)) number → Forced circuit number j
qubits_sound circuit j op table number at last listed =
    let found : Found (λ (qubit : Qubit). option_to_list (get_or table qubit.0 None)) (qubits_of op) number = found_in (λ (qubit : Qubit). option_to_list (get_or table qubit.0 None)) (qubits_of op) number listed in
    let qubit : Qubit = found.element in
    let acts = acts_before circuit HasQubit j qubit.0 number (get_or table qubit.0 None) (last qubit.0) (option_listed (get_or table qubit.0 None) number found.listed) in
    let on : ActsOn circuit HasQubit qubit.0 number = acts.1 in
    forced_on circuit number j on.op op (on_qubit qubit.0) acts.0 on.there at on.on
    (found.k, slice_get_within (qubits_of op) found.k qubit found.at, get_or_from_slice_get (qubits_of op) found.k qubit qubit found.at)

qubits_reached : (circuit : CircuitValue) (i j qubit : ℕ) (first second : Op) (table : List (Option OpId)) → i < j → slice_get circuit.ops i ≡ Some first → IsLastTable circuit HasQubit j table → HasQubit first qubit → HasQubit second qubit
    → IsReached circuit (IsListed (last_on_qubits table (qubits_of second))) i
qubits_reached circuit i j qubit first second table h at last of_first of_second =
    let f : Qubit → List OpId = λ (q : Qubit). option_to_list (get_or table q.0 None) in
    let it : Covers circuit HasQubit qubit i (get_or table qubit None) = covers circuit HasQubit j qubit i (get_or table qubit None) (last qubit) h (record { op = first; there = at; on = of_first }) in
    let on : ActsOn circuit HasQubit qubit it.by = it.on in
    let at_qubit : slice_get (qubits_of second) of_second.0 ≡ Some (qubit_at qubit) = slice_get-get_or (qubits_of second) of_second.0 (qubit_at qubit) of_second.1 ∙ ap Some of_second.2 in
    record {
      last = it.by;
      among = listed_in f (qubits_of second) of_second.0 (qubit_at qubit) it.by at_qubit (listed_option (get_or table qubit None) it.by it.is);
      reached = reached_by circuit i it.by first on.op (on_qubit qubit) it.order at on.there of_first on.on;
    }

-- ---- bits

later_is : (first second : Option OpId) (number : ℕ) → later first second ≡ Some (numbered number) → second ≡ Some (numbered number)
later_is first None number is = absurd (none-some (numbered number) is)
later_is None (Some second) number is = is
later_is (Some first) (Some second) number is = ap Some (cond_some _ second (numbered number) is).1

part_at : {X : Type 0} (xs : List X) (from count k : ℕ) (x d : X) → slice_get (take count (drop from xs)) k ≡ Some x → (k < count) × (get_or xs (from + k) d ≡ x)
part_at xs from count k x d at =
    let within : k < length (take count (drop from xs)) = slice_get_within (take count (drop from xs)) k x at in
    let low : k < count = omega (arith, length-take count (drop from xs)) in
    (low, sym (get_or-drop from xs k d) ∙ sym (get_or-take count (drop from xs) k d low) ∙ get_or_from_slice_get (take count (drop from xs)) k x d at)

at_part : {X : Type 0} (xs : List X) (from end bit : ℕ) (d : X) → from ≤ bit → bit < end → end ≤ length xs → slice_get (take (end - from) (drop from xs)) (bit - from) ≡ Some (get_or xs bit d)
at_part xs from end bit d h1 h2 h3 =
    let low : bit - from < end - from = omega arith in
    let within : bit - from < length (take (end - from) (drop from xs)) = omega (arith, length-take (end - from) (drop from xs), length-drop from xs) in
    let back : from + (bit - from) ≡ bit = omega arith in
    slice_get-get_or (take (end - from) (drop from xs)) (bit - from) d within
    ∙ ap Some (get_or-take (end - from) (drop from xs) (bit - from) d low ∙ get_or-drop from xs (bit - from) d ∙ ap (λ (n : ℕ). get_or xs n d) back)

-- the operation acts on all bits of the range
abbrev ActsIn : CircuitValue → Op → BitRange → Type 0
ActsIn circuit op range = (bit : ℕ) → range.from ≤ bit → bit < range.end → IsWire circuit op (on_bit bit)

bits_sound : (circuit : CircuitValue) (j : ℕ) (op : Op) (writing testing : List (Option OpId)) (range : BitRange) (number : ℕ) → slice_get circuit.ops j ≡ Some op → IsLastTable circuit Writes j writing → IsLastTable circuit (Tests circuit) j testing
    → range.from < range.end → ActsIn circuit op range → IsListed (last_on_bits writing testing (Some range)) number → Forced circuit number j
bits_sound circuit j op writing testing range number at last_writing last_testing some acts_in listed =
    let tester : Option OpId = get_or testing range.from None in
    let part : List (Option OpId) = take (range.end - range.from) (drop range.from writing) in
    let f : Option OpId → List OpId = λ (other : Option OpId). option_to_list (later tester other) in
    elim (Contains-append_cases (option_to_list tester) (later_than tester part) (numbered number) listed) [
      | inl tests ↦ (let acts = acts_before circuit (Tests circuit) j range.from number tester (last_testing range.from) (option_listed tester number tests) in
          let on : ActsOn circuit (Tests circuit) range.from number = acts.1 in
          forced_on circuit number j on.op op (on_bit range.from) acts.0 on.there at (inr on.on) (acts_in range.from (omega arith) some))
      | inr writes ↦ (let found : Found f part number = found_in f part number writes in
          let place = part_at writing range.from (range.end - range.from) found.k found.element None found.at in
          let entry : get_or writing (range.from + found.k) None ≡ Some (numbered number) = place.1 ∙ later_is tester found.element number (option_listed (later tester found.element) number found.listed) in
          let acts = acts_before circuit Writes j (range.from + found.k) number (get_or writing (range.from + found.k) None) (last_writing (range.from + found.k)) entry in
          let on : ActsOn circuit Writes (range.from + found.k) number = acts.1 in
          forced_on circuit number j on.op op (on_bit (range.from + found.k)) acts.0 on.there at (inl on.on) (acts_in (range.from + found.k) (omega arith) (omega (arith, place.0))))
    ]

-- what writes a bit of the range: its last writer comes after the last tester, or the last tester is reached
writer_reached : (circuit : CircuitValue) (i j bit : ℕ) (first : Op) (writing testing : List (Option OpId)) (range : BitRange) (tester : Option OpId) → get_or testing range.from None ≡ tester → i < j → slice_get circuit.ops i ≡ Some first → IsLastTable circuit Writes j writing
    → IsLastOn circuit (Tests circuit) j range.from tester → IsBlock circuit range → range.end ≤ length writing → range.from ≤ bit → bit < range.end → Writes first bit
    → IsReached circuit (IsListed (option_to_list tester ++ later_than tester (take (range.end - range.from) (drop range.from writing)))) i
writer_reached circuit i j bit first writing testing range None entry h at last_writing last_testing block below low high writes =
    let f : Option OpId → List OpId = λ (other : Option OpId). option_to_list (later None other) in
    let it : Covers circuit Writes bit i (get_or writing bit None) = covers circuit Writes j bit i (get_or writing bit None) (last_writing bit) h (record { op = first; there = at; on = writes }) in
    let on : ActsOn circuit Writes bit it.by = it.on in
    let there = at_part writing range.from range.end bit None low high below ∙ ap Some it.is in
    record {
      last = it.by;
      among = listed_in f (take (range.end - range.from) (drop range.from writing)) (bit - range.from) (Some (numbered it.by)) it.by there (listed_option (Some (numbered it.by)) it.by refl);
      reached = reached_by circuit i it.by first on.op (on_bit bit) it.order at on.there (inl writes) (inl on.on);
    }
writer_reached circuit i j bit first writing testing range (Some tester) entry h at last_writing last_testing block below low high writes =
    let f : Option OpId → List OpId = λ (other : Option OpId). option_to_list (later (Some tester) other) in
    let part : List (Option OpId) = take (range.end - range.from) (drop range.from writing) in
    let it : Covers circuit Writes bit i (get_or writing bit None) = covers circuit Writes j bit i (get_or writing bit None) (last_writing bit) h (record { op = first; there = at; on = writes }) in
    let on : ActsOn circuit Writes bit it.by = it.on in
    let tests : ActsOn circuit (Tests circuit) range.from tester.0 = last_testing.1 in
    let tests_bit : IsTested circuit (cond_of tests.op) bit = block.one (cond_of tests.op) range.from bit (omega arith) block.some low high tests.on in
    elim (cases_lt tester.0 it.by) [
      | inl after ↦ (let there = at_part writing range.from range.end bit None low high below ∙ ap Some it.is in
          let kept : later (Some tester) (Some (numbered it.by)) ≡ Some (numbered it.by) = cond-true _ _ _ (lt-ltb tester.0 it.by after) in
          record {
            last = it.by;
            among = Contains-append_right (tester ∷ []) (later_than (Some tester) part) (numbered it.by) (listed_in f part (bit - range.from) (Some (numbered it.by)) it.by there (listed_option (later (Some tester) (Some (numbered it.by))) it.by kept));
            reached = reached_by circuit i it.by first on.op (on_bit bit) it.order at on.there (inl writes) (inl on.on);
          })
      | inr before ↦ record {
        last = tester.0;
        among = Contains-append_left (tester ∷ []) (later_than (Some tester) part) (numbered tester.0) (0, omega arith, refl);
        reached = reached_by circuit i tester.0 first tests.op (on_bit bit) (omega (arith, it.order, before)) at tests.there (inl writes) (inr tests_bit);
      }
    ]

tester_reached : (circuit : CircuitValue) (i j bit : ℕ) (first : Op) (writing testing : List (Option OpId)) (range : BitRange) → i < j → slice_get circuit.ops i ≡ Some first → IsLastTable circuit (Tests circuit) j testing → IsBlock circuit range → range.from ≤ bit → bit < range.end → Tests circuit first bit
    → IsReached circuit (IsListed (last_on_bits writing testing (Some range))) i
tester_reached circuit i j bit first writing testing range h at last_testing block low high tests =
    let tester : Option OpId = get_or testing range.from None in
    let first_tests : IsTested circuit (cond_of first) range.from = block.one (cond_of first) bit range.from low high (omega arith) block.some tests in
    let it : Covers circuit (Tests circuit) range.from i tester = covers circuit (Tests circuit) j range.from i tester (last_testing range.from) h (record { op = first; there = at; on = first_tests }) in
    let on : ActsOn circuit (Tests circuit) range.from it.by = it.on in
    record {
      last = it.by;
      among = Contains-append_left (option_to_list tester) (later_than tester (take (range.end - range.from) (drop range.from writing))) (numbered it.by) (listed_option tester it.by it.is);
      reached = reached_by circuit i it.by first on.op (on_bit range.from) it.order at on.there (inr first_tests) (inr on.on);
    }

bits_reached : (circuit : CircuitValue) (i j bit : ℕ) (first : Op) (writing testing : List (Option OpId)) (range : BitRange) → i < j → slice_get circuit.ops i ≡ Some first → IsLastTable circuit Writes j writing → IsLastTable circuit (Tests circuit) j testing
    → IsBlock circuit range → range.end ≤ length writing → range.from ≤ bit → bit < range.end → IsWire circuit first (on_bit bit) → IsReached circuit (IsListed (last_on_bits writing testing (Some range))) i
bits_reached circuit i j bit first writing testing range h at last_writing last_testing block below low high (inl writes) =
    writer_reached circuit i j bit first writing testing range (get_or testing range.from None) refl h at last_writing (last_testing range.from) block below low high writes
bits_reached circuit i j bit first writing testing range h at last_writing last_testing block below low high (inr tests) =
    tester_reached circuit i j bit first writing testing range h at last_testing block low high tests

-- ---- a range that may be none

-- what a range says where there is one
record Ranged (circuit : CircuitValue) (op : Op) (range : Option BitRange) : Type 0 where
  block : (found : BitRange) → range ≡ Some found → IsBlock circuit found
  acts : (bit : ℕ) → IsIn range bit → IsWire circuit op (on_bit bit)

ranged_sound : (circuit : CircuitValue) (j : ℕ) (op : Op) (writing testing : List (Option OpId)) (range : Option BitRange) (number : ℕ) → slice_get circuit.ops j ≡ Some op → IsLastTable circuit Writes j writing → IsLastTable circuit (Tests circuit) j testing → Ranged circuit op range
    → IsListed (last_on_bits writing testing range) number → Forced circuit number j
ranged_sound circuit j op writing testing None number at last_writing last_testing ranged listed = absurd (omega (arith, listed.1))
ranged_sound circuit j op writing testing (Some range) number at last_writing last_testing ranged listed =
    let block : IsBlock circuit range = ranged.block range refl in
    bits_sound circuit j op writing testing range number at last_writing last_testing block.some (λ bit low high. ranged.acts bit (low, high)) listed

ranged_reached : (circuit : CircuitValue) (i j bit : ℕ) (first op : Op) (writing testing : List (Option OpId)) (range : Option BitRange) → i < j → slice_get circuit.ops i ≡ Some first → IsLastTable circuit Writes j writing → IsLastTable circuit (Tests circuit) j testing → Ranged circuit op range
    → bit_count circuit ≡ length writing → IsIn range bit → IsWire circuit first (on_bit bit) → IsReached circuit (IsListed (last_on_bits writing testing range)) i
ranged_reached circuit i j bit first op writing testing None h at last_writing last_testing ranged len is wire = absurd is
ranged_reached circuit i j bit first op writing testing (Some range) h at last_writing last_testing ranged len is wire =
    let block : IsBlock circuit range = ranged.block range refl in
    bits_reached circuit i j bit first writing testing range h at last_writing last_testing block (omega (arith, block.below, len)) is.0 is.1 wire

ranged_written : (circuit : CircuitValue) (op : Op) → IsOpOf circuit op → Ranged circuit op (written op)
ranged_written circuit op fits = record { block = λ found is. block_written circuit op found fits is; acts = λ bit is. inl (written_in (bit_of op) bit is) }

ranged_tested : (circuit : CircuitValue) (op : Op) → IsCircuit circuit → Ranged circuit op (tested circuit op)
ranged_tested circuit op circuit_is = record { block = λ found is. block_tested circuit op found circuit_is is; acts = λ bit is. inr (tested_in circuit (cond_of op) bit is) }

-- ---- all of an operation

reached_in : (circuit : CircuitValue) (near more : List OpId) (number : ℕ) → ((n : ℕ) → IsListed near n → IsListed more n) → IsReached circuit (IsListed near) number → IsReached circuit (IsListed more) number
reached_in circuit near more number within reached = record { last = reached.last; among = within reached.last reached.among; reached = reached.reached }

wire_reached : (circuit : CircuitValue) (i j : ℕ) (first op : Op) (wire : Wire) (last : LastOps) → IsCircuit circuit → IsOpOf circuit op → i < j → slice_get circuit.ops i ≡ Some first → AreLast circuit j last → IsWire circuit first wire → IsWire circuit op wire
    → IsReached circuit (IsListed (right_before circuit last op)) i
wire_reached circuit i j first op (on_qubit qubit) last circuit_is fits h at are of_first of_op =
    let qubits : List OpId = last_on_qubits last.on_qubit.items (qubits_of op) in
    let writes : List OpId = last_on_bits last.writing.items last.testing.items (written op) in
    let tests : List OpId = last_on_bits last.writing.items last.testing.items (tested circuit op) in
    reached_in circuit qubits ((qubits ++ writes) ++ tests) i (λ n among. Contains-append_left (qubits ++ writes) tests (numbered n) (Contains-append_left qubits writes (numbered n) among))
    (qubits_reached circuit i j qubit first op last.on_qubit.items h at are.on_qubit of_first of_op)
wire_reached circuit i j first op (on_bit bit) last circuit_is fits h at are of_first (inl of_op) =
    let qubits : List OpId = last_on_qubits last.on_qubit.items (qubits_of op) in
    let writes : List OpId = last_on_bits last.writing.items last.testing.items (written op) in
    let tests : List OpId = last_on_bits last.writing.items last.testing.items (tested circuit op) in
    reached_in circuit writes ((qubits ++ writes) ++ tests) i (λ n among. Contains-append_left (qubits ++ writes) tests (numbered n) (Contains-append_right qubits writes (numbered n) among))
    (ranged_reached circuit i j bit first op last.writing.items last.testing.items (written op) h at are.writing are.testing (ranged_written circuit op fits) (sym are.tables.written) (in_written (bit_of op) bit of_op) of_first)
wire_reached circuit i j first op (on_bit bit) last circuit_is fits h at are of_first (inr of_op) =
    let qubits : List OpId = last_on_qubits last.on_qubit.items (qubits_of op) in
    let writes : List OpId = last_on_bits last.writing.items last.testing.items (written op) in
    let tests : List OpId = last_on_bits last.writing.items last.testing.items (tested circuit op) in
    reached_in circuit tests ((qubits ++ writes) ++ tests) i (λ n among. Contains-append_right (qubits ++ writes) tests (numbered n) among)
    (ranged_reached circuit i j bit first op last.writing.items last.testing.items (tested circuit op) h at are.writing are.testing (ranged_tested circuit op circuit_is) (sym are.tables.written) (in_tested circuit (cond_of op) bit of_op) of_first)

-- what has to come before a barrier that is reached is reached
reached_through : (circuit : CircuitValue) (i k : ℕ) (others : ℕ → Type 0) → IsBarrierAt circuit k → Forced circuit i k → IsReached circuit others k → IsReached circuit others i
reached_through circuit i k others barrier forced reached = record {
  last = reached.last;
  among = reached.among;
  reached = elim reached.reached [
    | inl same ↦ inr (subst (Forced circuit i) same forced)
    | inr before ↦ inr (by_barrier i k reached.last barrier forced before)
  ];
}

all_reached : (circuit : CircuitValue) (i j : ℕ) (op : Op) (last : LastOps) → IsCircuit circuit → IsOpOf circuit op → slice_get circuit.ops j ≡ Some op → AreLast circuit j last → Forced circuit i j → IsReached circuit (IsListed (right_before circuit last op)) i
all_reached circuit i j op last circuit_is fits at are (by_wire _ _ h share) =
    wire_reached circuit i j share.first op share.wire last circuit_is fits h share.at_i are share.of_first (subst (λ (o : Op). IsWire circuit o share.wire) (same_Some share.second op (sym share.at_j ∙ at)) share.of_second)
all_reached circuit i j op last circuit_is fits at are (by_barrier _ k _ barrier first second) =
    reached_through circuit i k (IsListed (right_before circuit last op)) barrier first (all_reached circuit k j op last circuit_is fits at are second)

all_sound : (circuit : CircuitValue) (number j : ℕ) (op : Op) (last : LastOps) → IsCircuit circuit → IsOpOf circuit op → slice_get circuit.ops j ≡ Some op → AreLast circuit j last → IsListed (right_before circuit last op) number → Forced circuit number j
all_sound circuit number j op last circuit_is fits at are listed =
    let qubits : List OpId = last_on_qubits last.on_qubit.items (qubits_of op) in
    let writes : List OpId = last_on_bits last.writing.items last.testing.items (written op) in
    let tests : List OpId = last_on_bits last.writing.items last.testing.items (tested circuit op) in
    elim (Contains-append_cases (qubits ++ writes) tests (numbered number) listed) [
      | inl front ↦ elim (Contains-append_cases qubits writes (numbered number) front) [
        | inl on_qubits ↦ qubits_sound circuit j op last.on_qubit.items number at are.on_qubit on_qubits
        | inr on_written ↦ ranged_sound circuit j op last.writing.items last.testing.items (written op) number at are.writing are.testing (ranged_written circuit op fits) on_written
      ]
      | inr on_tested ↦ ranged_sound circuit j op last.writing.items last.testing.items (tested circuit op) number at are.writing are.testing (ranged_tested circuit op circuit_is) on_tested
    ]

-- the last operations on what the operation acts on are the nearest
pub nearest_found : (circuit : CircuitValue) (number : ℕ) (op : Op) (last : LastOps) → IsCircuit circuit → IsOpOf circuit op → slice_get circuit.ops number ≡ Some op → AreLast circuit number last → AreNearest circuit number (right_before circuit last op)
nearest_found circuit number op last circuit_is fits at are = record {
  sound = λ k listed. all_sound circuit k number op last circuit_is fits at are listed;
  all = λ k forced. all_reached circuit k number op last circuit_is fits at are forced;
}

-- ---- a step of the pass

-- one more of an operation's qubits
pub qubits_more : (table : List (Option OpId)) (qubits : List Qubit) (index : ℕ) (qubit : Qubit) (start old new : List OpId) → index < length qubits → slice_get qubits index ≡ Some qubit → old ≡ start ++ last_on_qubits table (take index qubits)
    → new ≡ old ++ option_to_list (get_or table qubit.0 None) → new ≡ start ++ last_on_qubits table (take (index + 1) qubits)
qubits_more table qubits index qubit start old new h at so_far is =
    let f : Qubit → List OpId = λ (q : Qubit). option_to_list (get_or table q.0 None) in
    let whole : take (index + 1) qubits ≡ take index qubits ++ qubit ∷ [] = take_more qubits index qubit h ∙ ap (λ (q : Qubit). take index qubits ++ q ∷ []) (get_or_from_slice_get qubits index qubit qubit at) in
    is ∙ ap (λ (l : List OpId). l ++ f qubit) so_far ∙ flat_map_more f start (take index qubits) qubit ∙ ap (λ (l : List Qubit). start ++ flat_map f l) (sym whole)

noted_written : (op : Op) (old new : List (Option OpId)) (number : OpId) → IsNoted old new number (IsIn (written op)) → IsNoted old new number (Writes op)
noted_written op old new number is = noted_same old new number (IsIn (written op)) (Writes op) (λ bit. written_in (bit_of op) bit) (λ bit. in_written (bit_of op) bit) is

noted_tested : (circuit : CircuitValue) (op : Op) (old new : List (Option OpId)) (number : OpId) → IsNoted old new number (IsIn (tested circuit op)) → IsNoted old new number (Tests circuit op)
noted_tested circuit op old new number is = noted_same old new number (IsIn (tested circuit op)) (Tests circuit op) (λ bit. tested_in circuit (cond_of op) bit) (λ bit. in_tested circuit (cond_of op) bit) is

pub last_step : (circuit : CircuitValue) (number : ℕ) (op : Op) (last new : LastOps) → slice_get circuit.ops number ≡ Some op → AreLast circuit number last → IsNoted last.on_qubit.items new.on_qubit.items (numbered number) (HasQubit op)
    → IsNoted last.writing.items new.writing.items (numbered number) (IsIn (written op)) → IsNoted last.testing.items new.testing.items (numbered number) (IsIn (tested circuit op)) → AreLast circuit (number + 1) new
last_step circuit number op last new at are qubits writes tests = record {
  tables = record { qubits = qubits.len ∙ are.tables.qubits; written = writes.len ∙ are.tables.written; tested = tests.len ∙ are.tables.tested };
  on_qubit = table_more circuit HasQubit number op last.on_qubit.items new.on_qubit.items at qubits are.on_qubit;
  writing = table_more circuit Writes number op last.writing.items new.writing.items at (noted_written op last.writing.items new.writing.items (numbered number) writes) are.writing;
  testing = table_more circuit (Tests circuit) number op last.testing.items new.testing.items at (noted_tested circuit op last.testing.items new.testing.items (numbered number) tests) are.testing;
}

-- one more row
pub row_step : (circuit : CircuitValue) (rows new : List (List OpId)) (near : List OpId) (number : ℕ) → length rows ≡ number → new ≡ rows ++ near ∷ [] → ((op : ℕ) (other : List OpId) → slice_get rows op ≡ Some other → AreNearest circuit op other) → AreNearest circuit number near
    → (op : ℕ) (other : List OpId) → slice_get new op ≡ Some other → AreNearest circuit op other
row_step circuit rows new near number len grown each is op other at = elim (slice_pushed rows near other op (ap (λ (l : List (List OpId)). slice_get l op) (sym grown) ∙ at)) [
  | inl there ↦ each op other there.1
  | inr last ↦ subst (λ (n : ℕ). AreNearest circuit n other) (sym (last.0 ∙ len)) (subst (AreNearest circuit number) last.1 is)
]

pub op_fits : (circuit : CircuitValue) (number : ℕ) (op : Op) → IsCircuit circuit → slice_get circuit.ops number ≡ Some op → IsOpOf circuit op
op_fits circuit number op is at = subst (IsOpOf circuit) (get_or_from_slice_get circuit.ops number op op at) (is.ops number op (slice_get_within circuit.ops number op at))
