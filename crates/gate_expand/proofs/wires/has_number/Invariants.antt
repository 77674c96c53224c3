use Rattle.std.proofs.Common.{◌≡◌, drop}
use Rattle.gate_expand.specs.Arguments.{has_number}
use Rattle.gate_expand.proofs.wires.has_number.Given as goal

abbrev pub invariant-loop-one : goal.invariant-loop-one
invariant-loop-one l = has_number l.index (drop l.one-index l.wires) l.number ≡ has_number l.index l.wires l.number
