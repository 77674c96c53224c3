use Rattle.std.proofs.Common.{◌≡◌, ℕ, ◌+◌, ◌≤◌, max, subst, arith}
use Rattle.std.specs.Prelude.{slice_index}
use Rattle.compact.specs.Levels.{IsGreatest}
use Rattle.compact.proofs.Raising.{IsBetween, between_cases, greatest_more}
use Rattle.compact.proofs.wires.greatest_of_bits.Goals as goal

pub loop-bit-preserved : goal.loop-bit-preserved
loop-bit-preserved c =
    let from : ℕ = c.args.bits.from in
    let bit : ℕ = c.loop-bit.bit in
    let low : c.args.bits.from ≤ c.loop-bit.bit = omega arith in
    let next : c.max-greatest.result ≡ max c.of.result c.loop-bit.greatest = omega arith in
    greatest_more (IsBetween from bit) (IsBetween from (bit + 1)) (slice_index c.args.levels.now) c.loop-bit.greatest c.of.result c.max-greatest.result bit c.of.ensures next
    (λ other it. (it.0, omega (arith, it.1))) (low, omega arith) (λ other it. between_cases from bit other low it) c.loop-bit.invariant

pub returns : goal.returns
returns c =
    let same : c.loop-bit.bit ≡ c.args.bits.end = omega arith in
    subst (λ (end : ℕ). IsGreatest (IsBetween c.args.bits.from end) (slice_index c.args.levels.now) c.loop-bit.greatest) same c.loop-bit.invariant
