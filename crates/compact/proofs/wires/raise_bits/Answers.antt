use Rattle.std.proofs.Common.{◌≡◌, ℕ, subst, arith}
use Rattle.std.specs.Prelude.{slice_index}
use Rattle.compact.specs.Levels.{AreRaised}
use Rattle.compact.proofs.Raising.{IsBetween}
use Rattle.compact.proofs.wires.raise_bits.Goals as goal

pub returns : goal.returns
returns c =
    let same : c.loop-bit.bit ≡ c.args.bits.end = omega arith in
    subst (λ (end : ℕ). AreRaised (IsBetween c.args.bits.from end) (slice_index c.args.levels.now) (slice_index c.loop-bit.levels) c.args.level) same c.loop-bit.invariant
