use Rattle.std.proofs.Common.{◌≡◌, ◌-◌}
use Rattle.gate_expand.specs.Arguments.{repeats_from}
use Rattle.gate_expand.proofs.wires.repeats.Given as goal

abbrev pub invariant-loop-index : goal.invariant-loop-index
invariant-loop-index l = repeats_from l.index (l.times - l.index) l.wires ≡ repeats_from 0 l.times l.wires
