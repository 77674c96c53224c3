use Rattle.gate_order.proofs.Order.{are_ready}
use Rattle.gate_order.proofs.ready_ops.Ready.ready.Goals as goal

pub returns : goal.returns
returns c =
    rw (← c.self.view_is, c.as_slice.ensures.value)
    (are_ready c.self.inside.circuit.now c.self.inside.nearest c.self.inside.after.items c.self.inside.progress c.self.invariant)
