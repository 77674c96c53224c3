use Rattle.std.proofs.Common.{◌≡◌, ◌-◌}
use Rattle.gate_expand.specs.Operations.{spread, reset_made}
use Rattle.gate_expand.proofs.expansion.make_resets.Given as goal

abbrev pub invariant-loop-index : goal.invariant-loop-index
invariant-loop-index l =
    spread (reset_made l.cond l.qubits) l.index (l.times - l.index) l.made ≡ spread (reset_made l.cond l.qubits) 0 l.times l.fn.made
