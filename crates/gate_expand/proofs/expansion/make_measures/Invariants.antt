use Rattle.std.proofs.Common.{◌≡◌, ◌-◌}
use Rattle.gate_expand.specs.Operations.{spread, measure_made}
use Rattle.gate_expand.proofs.expansion.make_measures.Given as goal

abbrev pub invariant-loop-index : goal.invariant-loop-index
invariant-loop-index l =
    spread (measure_made l.cond l.qubits l.bits) l.index (l.times - l.index) l.made ≡ spread (measure_made l.cond l.qubits l.bits) 0 l.times l.fn.made
