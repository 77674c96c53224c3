use Rattle.std.proofs.Common.{sym, subst}
use Rattle.gate_order.specs.Ready.{ReadyValue, IsReady}
use Rattle.gate_order.proofs.Order.{is_ready}
use Rattle.gate_order.proofs.ready_ops.Ready.done.Goals as goal

pub finish-requires-clause-ready : goal.finish-requires-clause-ready
finish-requires-clause-ready c =
    is_ready c.self.inside.circuit.now c.self.inside.nearest c.self.inside.after.items c.self.inside.progress c.args.op.0 c.self.invariant
    (subst (λ (v : ReadyValue). IsReady v.circuit v.done c.args.op.0) (sym c.self.view_is) c.requires)
