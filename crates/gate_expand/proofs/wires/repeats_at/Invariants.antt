use Rattle.std.proofs.Common.{◌≡◌, drop}
use Rattle.gate_expand.specs.Arguments.{repeats_at}
use Rattle.gate_expand.proofs.wires.repeats_at.Given as goal

abbrev pub invariant-loop-i : goal.invariant-loop-i
invariant-loop-i l = repeats_at l.index (drop l.i l.wires) ≡ repeats_at l.index l.wires
