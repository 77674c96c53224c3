use Rattle.std.proofs.Common.{sym, ◌∙◌}
use Rattle.circuit_core.specs.declared.op.Op.TheVariants as op
use Rattle.gate_expand.specs.Making.{with_op}
use Rattle.gate_expand.specs.Operations.{spread, reset_made}
use Rattle.gate_names.proofs.Refusals.{leaves_on}
use Rattle.gate_expand.proofs.Counting.{spread_stops}
use Rattle.gate_expand.proofs.expansion.make_resets.Goals as goal

pub returns-in_err-push : goal.returns-in_err-push
returns-in_err-push c =
    leaves_on c.from_residual.result c.in_err-push.field-0.0 c.push.new.self c.push.new.self
    (with_op (op.Reset (record { 0 = c.at.result }) c.args.cond) c.loop-index.made)
    (spread (reset_made c.args.cond c.args.qubits) 0 c.args.times c.args.made.now)
    c.from_residual.ensures.1 c.in_err-push.ensures
    (λ e. sym c.loop-index.invariant
    ∙ spread_stops (reset_made c.args.cond c.args.qubits) c.loop-index.index c.args.times c.loop-index.made c.in_err-push.field-0.0 c.loop-index-test.true
    (rw c.at.ensures at e))
