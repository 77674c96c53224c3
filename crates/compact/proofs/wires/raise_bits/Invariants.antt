use Rattle.std.specs.Prelude.{slice_index}
use Rattle.compact.specs.Levels.{AreRaised}
use Rattle.compact.proofs.Raising.{IsBetween}
use Rattle.compact.proofs.wires.raise_bits.Given as goal

abbrev pub invariant-loop-bit : goal.invariant-loop-bit
invariant-loop-bit l = AreRaised (IsBetween l.initial.bit l.bit) (slice_index l.initial.levels) (slice_index l.levels) l.level
