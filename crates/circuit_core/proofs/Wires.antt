-- The qubits and bits that two operations share.
use Rattle.std.proofs.Common.{◌≡◌, ℕ, max, Bool, true, false, ◌||◌, eqb, List, [], ◌∷◌, Some, None, refl, sym, ap, subst, ◌∙◌, inl, inr, arith}
use Rattle.std.specs.Prelude.{Option, Contains, slice_get, IsTrue, ◌↔◌, ◌⊎◌}
use Rattle.std.specs.Option.{option_map, option_and_then, option_map_or}
use Rattle.std.proofs.lemmas.Bool.{or_cases, or_left, or_right, eqb-true, eq-eqb, ltb-true, lt-ltb}
use Rattle.std.proofs.lemmas.Option.{same_Some}
use Rattle.std.proofs.lemmas.List.Folds.{list_any_at}
use Rattle.std.proofs.lemmas.List.Elements.{Contains-append_right}
use Rattle.qc_base.specs.declared.ids.Bit.{Bit}
use Rattle.qc_base.specs.declared.ids.Qubit.{Qubit}
use Rattle.circuit_core.specs.declared.bits.BitRange.{BitRange}
use Rattle.circuit_core.specs.declared.circuit.Reg.{Reg}
use Rattle.circuit_core.specs.declared.op.Cond.{Cond}
use Rattle.circuit_core.specs.declared.op.Op.{Op}
use Rattle.circuit_core.specs.Circuit.{CircuitValue, IsBitOf, first_bit}
use Rattle.circuit_core.specs.Op.{qubits_of, bit_of, cond_of}
use Rattle.circuit_core.specs.Order.{Wire, on_qubit, on_bit, IsTested, IsWire, Share}
use Rattle.circuit_core.specs.LastOps.{IsIn}
use Rattle.circuit_core.specs.Deciding.{bits_at, written, tested_by, tested, do_overlap, is_listed, have_common, share_bit, share_wire, is_shared}

-- ---- qubits

abbrev pub qubit_at : ℕ → Qubit
qubit_at number = record { 0 = number }

-- the qubit of that number is one of these
abbrev pub Has : List Qubit → ℕ → Type 0
Has qubits number = Contains qubits (qubit_at number)

pub has_first : (qubit : Qubit) (qubits : List Qubit) → Has (qubit ∷ qubits) qubit.0
has_first qubit qubits = (0, omega arith, refl)

pub has_later : (qubit : Qubit) (qubits : List Qubit) (number : ℕ) → Has qubits number → Has (qubit ∷ qubits) number
has_later qubit qubits number has = Contains-append_right (qubit ∷ []) qubits (qubit_at number) has

pub listed_has : (number : ℕ) (qubits : List Qubit) → is_listed number qubits ≡ true → Has qubits number
listed_has number [] is = absurd cc
listed_has number (qubit ∷ qubits) is = elim (or_cases (eqb qubit.0 number) (is_listed number qubits) is) [
  | inl here ↦ subst (Has (qubit ∷ qubits)) (eqb-true qubit.0 number here) (has_first qubit qubits)
  | inr later ↦ has_later qubit qubits number (listed_has number qubits later)
]

pub has_listed : (number : ℕ) (qubits : List Qubit) → Has qubits number → is_listed number qubits ≡ true
has_listed number qubits has =
    list_any_at (λ (qubit : Qubit). eqb qubit.0 number) qubits has.0 (qubit_at number) has.1 (eq-eqb _ number (ap (λ (qubit : Qubit). qubit.0) has.2))

-- a qubit of both lists
pub record Common (qubits others : List Qubit) : Type 0 where
  pub number : ℕ
  pub of_first : Has qubits number
  pub of_second : Has others number

pub common_from : (qubits others : List Qubit) → have_common qubits others ≡ true → Common qubits others
common_from qubits [] is = absurd cc
common_from qubits (other ∷ others) is = elim (or_cases (is_listed other.0 qubits) (have_common qubits others) is) [
  | inl here ↦ record { number = other.0; of_first = listed_has other.0 qubits here; of_second = has_first other others }
  | inr later ↦ (let rest : Common qubits others = common_from qubits others later in
      record { number = rest.number; of_first = rest.of_first; of_second = has_later other others rest.number rest.of_second })
]

pub have_common_at : (qubits others : List Qubit) (number : ℕ) → Has qubits number → Has others number → have_common qubits others ≡ true
have_common_at qubits others number first second =
    list_any_at (λ (qubit : Qubit). is_listed qubit.0 qubits) others second.0 (qubit_at number) second.1 (has_listed _ qubits (subst (Has qubits) (sym (ap (λ (qubit : Qubit). qubit.0) second.2)) first))

-- ---- bits

-- a bit of both ranges
record Overlap (a b : Option BitRange) : Type 0 where
  bit : ℕ
  of_first : IsIn a bit
  of_second : IsIn b bit

overlap_from : (a b : Option BitRange) → do_overlap a b ≡ true → Overlap a b
overlap_from None b is = absurd cc
overlap_from (Some a) None is = absurd cc
overlap_from (Some a) (Some b) is =
    let below = ltb-true _ _ is in
    record { bit = max a.from b.from; of_first = (omega arith, omega arith); of_second = (omega arith, omega arith) }

do_overlap_at : (a b : Option BitRange) (bit : ℕ) → IsIn a bit → IsIn b bit → do_overlap a b ≡ true
do_overlap_at None b bit first second = absurd first
do_overlap_at (Some a) None bit first second = absurd second
do_overlap_at (Some a) (Some b) bit first second = lt-ltb _ _ (omega (arith, first.0, first.1, second.0, second.1))

pub written_in : (bit : Option Bit) (number : ℕ) → IsIn (option_map (λ (bit : Bit). bits_at bit.0 1) bit) number → bit ≡ Some (record { 0 = number })
written_in None number is = absurd is
written_in (Some bit) number is = let same : bit.0 ≡ number = omega (arith, is.0, is.1) in (let numbered : ℕ → Option Bit = λ n. Some (record { 0 = n }) in ap numbered same)

pub in_written : (bit : Option Bit) (number : ℕ) → bit ≡ Some (record { 0 = number }) → IsIn (option_map (λ (bit : Bit). bits_at bit.0 1) bit) number
in_written None number is = absurd cc
in_written (Some bit) number is = let same : bit.0 ≡ number = ap (λ (b : Bit). b.0) (same_Some bit (record { 0 = number }) is) in (omega arith, omega arith)

abbrev bits_of : CircuitValue → ℕ → Option Reg → Option BitRange
bits_of circuit creg reg = option_map (λ (reg : Reg). bits_at (first_bit circuit creg) reg.size) reg

register_in : (circuit : CircuitValue) (creg bit : ℕ) (reg : Option Reg) → slice_get circuit.cregs creg ≡ reg → IsIn (bits_of circuit creg reg) bit → IsBitOf circuit creg bit
register_in circuit creg bit None there is = absurd is
register_in circuit creg bit (Some reg) there is = record { reg = reg; there = there; from = is.0; below = is.1 }

in_register : (circuit : CircuitValue) (creg bit : ℕ) → IsBitOf circuit creg bit → IsIn (bits_of circuit creg (slice_get circuit.cregs creg)) bit
in_register circuit creg bit is = subst (λ (reg : Option Reg). IsIn (bits_of circuit creg reg) bit) (sym is.there) (is.from, is.below)

pub tested_in : (circuit : CircuitValue) (cond : Option Cond) (bit : ℕ) → IsIn (option_and_then (tested_by circuit) cond) bit → IsTested circuit cond bit
tested_in circuit None bit is = absurd is
tested_in circuit (Some cond) bit is = register_in circuit cond.creg.0 bit (slice_get circuit.cregs cond.creg.0) refl is

pub in_tested : (circuit : CircuitValue) (cond : Option Cond) (bit : ℕ) → IsTested circuit cond bit → IsIn (option_and_then (tested_by circuit) cond) bit
in_tested circuit None bit is = absurd is
in_tested circuit (Some cond) bit is = in_register circuit cond.creg.0 bit is

-- a bit that both operations act on
pub record CommonBit (circuit : CircuitValue) (first second : Op) : Type 0 where
  pub bit : ℕ
  pub of_first : IsWire circuit first (on_bit bit)
  pub of_second : IsWire circuit second (on_bit bit)

-- the one operation acts on the bits of one range, and the other on those of another
shared_by : (circuit : CircuitValue) (first second : Op) (a b : Option BitRange) → ((bit : ℕ) → IsIn a bit → IsWire circuit first (on_bit bit)) → ((bit : ℕ) → IsIn b bit → IsWire circuit second (on_bit bit))
    → do_overlap a b ≡ true → CommonBit circuit first second
shared_by circuit first second a b of_first of_second is =
    let overlap : Overlap a b = overlap_from a b is in
    record { bit = overlap.bit; of_first = of_first overlap.bit overlap.of_first; of_second = of_second overlap.bit overlap.of_second }

by_written : (circuit : CircuitValue) (op : Op) (bit : ℕ) → IsIn (written op) bit → IsWire circuit op (on_bit bit)
by_written circuit op bit is = inl (written_in (bit_of op) bit is)

by_tested : (circuit : CircuitValue) (op : Op) (bit : ℕ) → IsIn (tested circuit op) bit → IsWire circuit op (on_bit bit)
by_tested circuit op bit is = inr (tested_in circuit (cond_of op) bit is)

pub common_bit_from : (circuit : CircuitValue) (first second : Op) → share_bit circuit first second ≡ true → CommonBit circuit first second
common_bit_from circuit first second is = elim (or_cases _ _ is) [
  | inl both_write ↦ shared_by circuit first second (written first) (written second) (by_written circuit first) (by_written circuit second) both_write
  | inr other ↦ elim (or_cases _ _ other) [
    | inl second_tests ↦ shared_by circuit first second (written first) (tested circuit second) (by_written circuit first) (by_tested circuit second) second_tests
    | inr first_tests ↦ elim (or_cases _ _ first_tests) [
      | inl second_writes ↦ shared_by circuit first second (tested circuit first) (written second) (by_tested circuit first) (by_written circuit second) second_writes
      | inr both_test ↦ shared_by circuit first second (tested circuit first) (tested circuit second) (by_tested circuit first) (by_tested circuit second) both_test
    ]
  ]
]

-- one of four tests holds
one_of_four : (a b c d : Bool) → (a ≡ true) ⊎ ((b ≡ true) ⊎ ((c ≡ true) ⊎ (d ≡ true))) → (a || (b || (c || d))) ≡ true
one_of_four a b c d (inl is) = or_left a (b || (c || d)) is
one_of_four a b c d (inr (inl is)) = or_right a (b || (c || d)) (or_left b (c || d) is)
one_of_four a b c d (inr (inr (inl is))) = or_right a (b || (c || d)) (or_right b (c || d) (or_left c d is))
one_of_four a b c d (inr (inr (inr is))) = or_right a (b || (c || d)) (or_right b (c || d) (or_right c d is))

four_overlaps : (circuit : CircuitValue) (first second : Op) (bit : ℕ) → IsWire circuit first (on_bit bit) → IsWire circuit second (on_bit bit)
    → (do_overlap (written first) (written second) ≡ true) ⊎ ((do_overlap (written first) (tested circuit second) ≡ true) ⊎ ((do_overlap (tested circuit first) (written second) ≡ true) ⊎ (do_overlap (tested circuit first) (tested circuit second) ≡ true)))
four_overlaps circuit first second bit (inl a) (inl b) = inl (do_overlap_at (written first) (written second) bit (in_written (bit_of first) bit a) (in_written (bit_of second) bit b))
four_overlaps circuit first second bit (inl a) (inr b) = inr (inl (do_overlap_at (written first) (tested circuit second) bit (in_written (bit_of first) bit a) (in_tested circuit (cond_of second) bit b)))
four_overlaps circuit first second bit (inr a) (inl b) = inr (inr (inl (do_overlap_at (tested circuit first) (written second) bit (in_tested circuit (cond_of first) bit a) (in_written (bit_of second) bit b))))
four_overlaps circuit first second bit (inr a) (inr b) = inr (inr (inr (do_overlap_at (tested circuit first) (tested circuit second) bit (in_tested circuit (cond_of first) bit a) (in_tested circuit (cond_of second) bit b))))

pub share_bit_at : (circuit : CircuitValue) (first second : Op) (bit : ℕ) → IsWire circuit first (on_bit bit) → IsWire circuit second (on_bit bit) → share_bit circuit first second ≡ true
share_bit_at circuit first second bit of_first of_second =
    one_of_four (do_overlap (written first) (written second)) (do_overlap (written first) (tested circuit second)) (do_overlap (tested circuit first) (written second)) (do_overlap (tested circuit first) (tested circuit second))
    (four_overlaps circuit first second bit of_first of_second)

-- ---- operations by their numbers

-- both operations are there, and the test holds of them
pub record Both (test : Op → Op → Bool) (first second : Option Op) : Type 0 where
  pub one : Op
  pub other : Op
  pub is_first : first ≡ Some one
  pub is_second : second ≡ Some other
  pub passes : test one other ≡ true

abbrev pub of_both : (Op → Op → Bool) → Option Op → Option Op → Bool
of_both test first second = option_map_or (λ one. option_map_or (test one) second false) first false

pub both_from : (test : Op → Op → Bool) (first second : Option Op) → of_both test first second ≡ true → Both test first second
both_from test None second is = absurd cc
both_from test (Some one) None is = absurd cc
both_from test (Some one) (Some other) is = record { one = one; other = other; is_first = refl; is_second = refl; passes = is }

pub of_both_at : (test : Op → Op → Bool) (first second : Option Op) (one other : Op) → first ≡ Some one → second ≡ Some other → of_both test first second ≡ test one other
of_both_at test first second one other e f = ap (λ (o : Option Op). of_both test o second) e ∙ ap (of_both test (Some one)) f

share_from : (circuit : CircuitValue) (i j : ℕ) (first second : Op) → slice_get circuit.ops i ≡ Some first → slice_get circuit.ops j ≡ Some second → share_wire circuit first second ≡ true → Share circuit i j
share_from circuit i j first second at_i at_j is = elim (or_cases _ _ is) [
  | inl qubit ↦ (let common : Common (qubits_of first) (qubits_of second) = common_from (qubits_of first) (qubits_of second) qubit in
      record { first = first; second = second; wire = on_qubit common.number; at_i = at_i; at_j = at_j; of_first = common.of_first; of_second = common.of_second })
  | inr bit ↦ (let common : CommonBit circuit first second = common_bit_from circuit first second bit in
      record { first = first; second = second; wire = on_bit common.bit; at_i = at_i; at_j = at_j; of_first = common.of_first; of_second = common.of_second })
]

share_wire_at : (circuit : CircuitValue) (first second : Op) (wire : Wire) → IsWire circuit first wire → IsWire circuit second wire → share_wire circuit first second ≡ true
share_wire_at circuit first second (on_qubit qubit) a b = or_left _ _ (have_common_at (qubits_of first) (qubits_of second) qubit a b)
share_wire_at circuit first second (on_bit bit) a b = or_right _ _ (share_bit_at circuit first second bit a b)

pub shared_iff : (circuit : CircuitValue) (i j : ℕ) → IsTrue (is_shared circuit i j) ↔ Share circuit i j
shared_iff circuit i j = (
  λ is. let both : Both (share_wire circuit) (slice_get circuit.ops i) (slice_get circuit.ops j) = both_from (share_wire circuit) (slice_get circuit.ops i) (slice_get circuit.ops j) is in
      share_from circuit i j both.one both.other both.is_first both.is_second both.passes,
  λ share. of_both_at (share_wire circuit) (slice_get circuit.ops i) (slice_get circuit.ops j) share.first share.second share.at_i share.at_j
      ∙ share_wire_at circuit share.first share.second share.wire share.of_first share.of_second,
)

-- ---- what an answer is

pub or_first : (a b answer : Bool) → answer ≡ true → a ≡ true → answer ≡ (a || b)
or_first a b answer is first = is ∙ sym (or_left a b first)

pub or_second : (a b answer : Bool) → answer ≡ b → a ≡ false → answer ≡ (a || b)
or_second a b answer is first = is ∙ ap (λ (c : Bool). c || b) (sym first)

pub iff_at : {P : Type 0} (answer decided : Bool) → answer ≡ decided → (IsTrue decided ↔ P) → IsTrue answer ↔ P
iff_at answer decided is iff = (λ yes. iff.0 (sym is ∙ yes), λ holds. is ∙ iff.1 holds)

pub tested_at : (circuit : CircuitValue) (op : Op) (cond : Cond) (reg : Reg) (from : ℕ) → Some cond ≡ cond_of op → slice_get circuit.cregs cond.creg.0 ≡ Some reg → from ≡ first_bit circuit cond.creg.0
    → Some (bits_at from reg.size) ≡ tested circuit op
tested_at circuit op cond reg from has at is =
    ap (λ (n : ℕ). Some (bits_at n reg.size)) is ∙ ap (bits_of circuit cond.creg.0) (sym at) ∙ ap (λ (c : Option Cond). option_and_then (tested_by circuit) c) has
