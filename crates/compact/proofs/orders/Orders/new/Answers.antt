use Rattle.std.proofs.Common.{◌≡◌, List, [], length, None, ap, sym, subst, ◌∙◌}
use Rattle.std.specs.Prelude.{replicate}
use Rattle.circuit_core.specs.declared.op.Op.{Op}
use Rattle.compact.specs.Levels.{WiresValue}
use Rattle.compact.specs.Orders.{AreOrders}
use Rattle.compact.proofs.Keeping.{orders_start}
use Rattle.compact.proofs.orders.Orders.new.Goals as goal

pub returns : goal.returns
returns c =
    let ready : c.in_ok-ready.ready.items ≡ replicate (length c.args.circuit.now.ops) None = c.in_ok-ready.ensures ∙ ap (λ (l : List Op). replicate (length l) None) c.ops.ensures.ops in
    subst (λ (w : WiresValue). AreOrders c.args.circuit.now c.args.actions.now [] 0 (record { wires = w; ready = c.in_ok-ready.ready.items; last = c.in_ok-last.last; waiting = c.in_ok-waiting.waiting.items })) (sym c.new.ensures)
    (orders_start c.args.circuit.now c.args.actions.now c.in_ok-ready.ready.items c.in_ok-last.last c.in_ok-waiting.waiting.items ready c.in_ok-last.ensures c.in_ok-waiting.ensures)
