use Rattle.circuit_core.specs.LastOps.{IsNoted}
use Rattle.circuit_core.proofs.Noted.{IsBetween}
use Rattle.circuit_core.proofs.last_ops.note_on_bits.Given as goal

abbrev pub invariant-loop-bit : goal.invariant-loop-bit
invariant-loop-bit l = IsNoted l.initial.table l.table l.number (IsBetween l.initial.bit l.bit)
