-- The bits of the registers, and the ranges of bits that operations act on.
use Rattle.std.proofs.Common.{◌≡◌, ℕ, zero, suc, ◌+◌, ◌<◌, ◌≤◌, List, [], ◌∷◌, take, Some, None, refl, sym, ap, subst, ◌∙◌, inl, inr, arith}
use Rattle.std.specs.Prelude.{Option, slice_get, IfSome, Contains, ◌++◌}
use Rattle.std.specs.Option.{option_map, option_and_then}
use Rattle.std.proofs.lemmas.Option.{same_Some, none-some, slice_get_within, get_or_from_slice_get}
use Rattle.std.proofs.lemmas.Bool.{cases_order}
use Rattle.std.proofs.lemmas.List.Elements.{All-contains, Contains-append_right}
use Rattle.circuit_core.specs.declared.circuit.Reg.{Reg}
use Rattle.qc_base.specs.declared.ids.Bit.{Bit}
use Rattle.circuit_core.specs.declared.bits.BitRange.{BitRange}
use Rattle.circuit_core.specs.declared.op.Cond.{Cond}
use Rattle.circuit_core.specs.declared.op.Op.{Op}
use Rattle.circuit_core.specs.Circuit.{size_of, CircuitValue, IsCircuit, IsRegister, IsBitOf, IsOpOf, bit_count, first_bit}
use Rattle.circuit_core.specs.Op.{bit_of, cond_of}
use Rattle.circuit_core.specs.Order.{IsTested}
use Rattle.circuit_core.specs.Deciding.{bits_at, written, tested_by, tested}
use Rattle.circuit_core.specs.LastOps.{IsRangeBelow}

pub size_of-take : (regs : List Reg) (count : ℕ) → size_of (take count regs) ≤ size_of regs
size_of-take [] zero = omega arith
size_of-take [] (suc count) = omega arith
size_of-take (reg ∷ regs) zero = omega arith
size_of-take (reg ∷ regs) (suc count) = omega (arith, size_of-take regs count)

pub register_fits : (regs : List Reg) (number : ℕ) (reg : Reg) → slice_get regs number ≡ Some reg → size_of (take number regs) + reg.size ≤ size_of regs
register_fits [] number reg at = absurd cc
register_fits (first ∷ regs) zero reg at = let same : first.size ≡ reg.size = ap (λ (r : Reg). r.size) (same_Some first reg at) in omega arith
register_fits (first ∷ regs) (suc number) reg at = omega (arith, register_fits regs number reg at)

take_further : (regs : List Reg) (number other : ℕ) (reg : Reg) → slice_get regs number ≡ Some reg → number < other → size_of (take number regs) + reg.size ≤ size_of (take other regs)
take_further [] number other reg at h = absurd cc
take_further (first ∷ regs) zero zero reg at h = absurd (omega arith)
take_further (first ∷ regs) zero (suc other) reg at h = let same : first.size ≡ reg.size = ap (λ (r : Reg). r.size) (same_Some first reg at) in omega arith
take_further (first ∷ regs) (suc number) zero reg at h = absurd (omega arith)
take_further (first ∷ regs) (suc number) (suc other) reg at h = omega (arith, take_further regs number other reg at (omega arith))

-- a bit is of one register alone
pub one_register : (circuit : CircuitValue) (creg other bit : ℕ) → IsBitOf circuit creg bit → IsBitOf circuit other bit → creg ≡ other
one_register circuit creg other bit first second = elim (cases_order creg other) [
  | inl same ↦ same
  | inr apart ↦ elim apart [
    | inl before ↦ absurd (omega (arith, take_further circuit.cregs creg other first.reg first.there before, first.below, second.from))
    | inr after ↦ absurd (omega (arith, take_further circuit.cregs other creg second.reg second.there after, second.below, first.from))
  ]
]

has_bit : (circuit : CircuitValue) (creg : ℕ) (reg : Reg) → IsCircuit circuit → slice_get circuit.cregs creg ≡ Some reg → 1 ≤ reg.size
has_bit circuit creg reg is at =
    let there : Contains circuit.cregs reg = (creg, slice_get_within circuit.cregs creg reg at, get_or_from_slice_get circuit.cregs creg reg reg at) in
    let register : IsRegister reg = All-contains IsRegister (circuit.qregs ++ circuit.cregs) reg is.registers (Contains-append_right circuit.qregs circuit.cregs reg there) in
    register.some

-- a range of bits that a condition tests all or none of
pub record IsBlock (circuit : CircuitValue) (range : BitRange) : Type 0 where
  pub some : range.from < range.end
  pub below : range.end ≤ bit_count circuit
  pub one : (cond : Option Cond) (bit other : ℕ) → range.from ≤ bit → bit < range.end → range.from ≤ other → other < range.end → IsTested circuit cond bit → IsTested circuit cond other

block_of_bit : (circuit : CircuitValue) (bit : Option Bit) (range : BitRange) → IfSome bit (λ (bit : Bit). bit.0 < bit_count circuit) → option_map (λ (bit : Bit). bits_at bit.0 1) bit ≡ Some range → IsBlock circuit range
block_of_bit circuit None range below is = absurd (none-some range is)
block_of_bit circuit (Some bit) range below is = subst (IsBlock circuit) (same_Some (bits_at bit.0 1) range is) (record {
  some = omega arith;
  below = omega (arith, below);
  one = λ cond first second h1 h2 h3 h4 tested. (let same : first ≡ second = omega (arith, h1, h2, h3, h4) in subst (IsTested circuit cond) same tested);
})

pub block_written : (circuit : CircuitValue) (op : Op) (range : BitRange) → IsOpOf circuit op → written op ≡ Some range → IsBlock circuit range
block_written circuit op range fits is = block_of_bit circuit (bit_of op) range fits.bit is

one_of_register : (circuit : CircuitValue) (creg : ℕ) (reg : Reg) (cond : Option Cond) (bit other : ℕ) → slice_get circuit.cregs creg ≡ Some reg → first_bit circuit creg ≤ bit → bit < first_bit circuit creg + reg.size → first_bit circuit creg ≤ other → other < first_bit circuit creg + reg.size
    → IsTested circuit cond bit → IsTested circuit cond other
one_of_register circuit creg reg None bit other at h1 h2 h3 h4 tested = absurd tested
one_of_register circuit creg reg (Some cond) bit other at h1 h2 h3 h4 tested =
    let mine : IsBitOf circuit creg bit = record { reg = reg; there = at; from = h1; below = h2 } in
    let same : creg ≡ cond.creg.0 = one_register circuit creg cond.creg.0 bit mine tested in
    let others : IsBitOf circuit creg other = record { reg = reg; there = at; from = h3; below = h4 } in
    subst (λ (n : ℕ). IsBitOf circuit n other) same others

block_of_register : (circuit : CircuitValue) (creg : ℕ) (reg : Reg) → IsCircuit circuit → slice_get circuit.cregs creg ≡ Some reg → IsBlock circuit (bits_at (first_bit circuit creg) reg.size)
block_of_register circuit creg reg is at = record {
  some = omega (arith, has_bit circuit creg reg is at);
  below = register_fits circuit.cregs creg reg at;
  one = λ cond bit other h1 h2 h3 h4 tested. one_of_register circuit creg reg cond bit other at h1 h2 h3 h4 tested;
}

block_of_found : (circuit : CircuitValue) (creg : ℕ) (reg : Option Reg) (range : BitRange) → IsCircuit circuit → slice_get circuit.cregs creg ≡ reg → option_map (λ (reg : Reg). bits_at (first_bit circuit creg) reg.size) reg ≡ Some range → IsBlock circuit range
block_of_found circuit creg None range is at found = absurd (none-some range found)
block_of_found circuit creg (Some reg) range is at found = subst (IsBlock circuit) (same_Some (bits_at (first_bit circuit creg) reg.size) range found) (block_of_register circuit creg reg is at)

block_of_cond : (circuit : CircuitValue) (cond : Option Cond) (range : BitRange) → IsCircuit circuit → option_and_then (tested_by circuit) cond ≡ Some range → IsBlock circuit range
block_of_cond circuit None range is found = absurd (none-some range found)
block_of_cond circuit (Some cond) range is found = block_of_found circuit cond.creg.0 (slice_get circuit.cregs cond.creg.0) range is refl found

pub block_tested : (circuit : CircuitValue) (op : Op) (range : BitRange) → IsCircuit circuit → tested circuit op ≡ Some range → IsBlock circuit range
block_tested circuit op range is found = block_of_cond circuit (cond_of op) range is found

range_of_block : (circuit : CircuitValue) (count : ℕ) (range : Option BitRange) → count ≡ bit_count circuit → ((found : BitRange) → range ≡ Some found → IsBlock circuit found) → IsRangeBelow count range
range_of_block circuit count None same block = tt
range_of_block circuit count (Some range) same block = let it : IsBlock circuit range = block range refl in (it.some, omega (arith, it.below, same))

pub range_written : (circuit : CircuitValue) (op : Op) (count : ℕ) (range : Option BitRange) → IsOpOf circuit op → count ≡ bit_count circuit → range ≡ written op → IsRangeBelow count range
range_written circuit op count range fits same is = range_of_block circuit count range same (λ found e. block_written circuit op found fits (sym is ∙ e))

pub range_tested : (circuit : CircuitValue) (op : Op) (count : ℕ) (range : Option BitRange) → IsCircuit circuit → count ≡ bit_count circuit → range ≡ tested circuit op → IsRangeBelow count range
range_tested circuit op count range circuit_is same is = range_of_block circuit count range same (λ found e. block_tested circuit op found circuit_is (sym is ∙ e))
