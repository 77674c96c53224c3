use Rattle.std.proofs.Common.{◌≡◌, None, drop}
use Rattle.gate_expand.specs.Arguments.{size_after}
use Rattle.gate_expand.proofs.wires.times.Given as goal

abbrev pub invariant-loop-one : goal.invariant-loop-one
invariant-loop-one l = size_after l.times (drop l.one-index l.wires) ≡ size_after None l.wires
