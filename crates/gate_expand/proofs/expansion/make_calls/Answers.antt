use Rattle.std.proofs.Common.{sym, ◌∙◌}
use Rattle.gate_expand.specs.Expansion.{application_made}
use Rattle.gate_expand.specs.Operations.{spread, call_made}
use Rattle.gate_names.proofs.Refusals.{leaves_on}
use Rattle.gate_expand.proofs.Counting.{spread_stops}
use Rattle.gate_expand.proofs.expansion.make_calls.Goals as goal

pub returns-in_err-apply : goal.returns-in_err-apply
returns-in_err-apply c =
    leaves_on c.from_residual-in_err-apply.result c.in_err-apply.field-0.0 c.apply.new.made c.apply.new.made
    (application_made c.args.gates.now c.args.cond c.args.gate c.args.params.now c.in_ok-qubits.qubits.items c.loop-index.made)
    (spread (call_made c.args.gates.now c.args.cond c.args.gate c.args.params.now c.args.wires.now) 0 c.args.times c.args.made.now)
    c.from_residual-in_err-apply.ensures.1 c.in_err-apply.ensures
    (λ e. sym c.loop-index.invariant
    ∙ spread_stops (call_made c.args.gates.now c.args.cond c.args.gate c.args.params.now c.args.wires.now) c.loop-index.index c.args.times c.loop-index.made
    c.in_err-apply.field-0.0 c.loop-index-test.true (rw c.in_ok-qubits.ensures at e))
