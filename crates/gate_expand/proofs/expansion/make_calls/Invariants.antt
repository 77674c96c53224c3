use Rattle.std.proofs.Common.{◌≡◌, ◌-◌}
use Rattle.gate_expand.specs.Operations.{spread, call_made}
use Rattle.gate_expand.proofs.expansion.make_calls.Given as goal

abbrev pub invariant-loop-index : goal.invariant-loop-index
invariant-loop-index l =
    spread (call_made l.gates l.cond l.gate l.params l.wires) l.index (l.times - l.index) l.made
    ≡ spread (call_made l.gates l.cond l.gate l.params l.wires) 0 l.times l.fn.made
