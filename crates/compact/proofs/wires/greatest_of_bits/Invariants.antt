use Rattle.std.specs.Prelude.{slice_index}
use Rattle.compact.specs.Levels.{IsGreatest}
use Rattle.compact.proofs.Raising.{IsBetween}
use Rattle.compact.proofs.wires.greatest_of_bits.Given as goal

abbrev pub invariant-loop-bit : goal.invariant-loop-bit
invariant-loop-bit l = IsGreatest (IsBetween l.initial.bit l.bit) (slice_index l.levels) l.greatest
