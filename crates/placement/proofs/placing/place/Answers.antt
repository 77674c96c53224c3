use Rattle.std.proofs.Common.{sym, subst, ◌∙◌}
use Rattle.placement.specs.Orders.{IsOrder}
use Rattle.placement.proofs.Ordered.{declared_order, first_use_order}
use Rattle.placement.proofs.placing.place.Goals as goal

pub filling-requires : goal.filling-requires
filling-requires c =
    subst (IsOrder c.args.circuit.now) (sym (c.as_slice.ensures.value ∙ c.in_ok-qubits-in-Declared.ensures)) (declared_order c.args.circuit.now)

pub filling-requires-in-FirstUse : goal.filling-requires-in-FirstUse
filling-requires-in-FirstUse c =
    subst (IsOrder c.args.circuit.now) (sym (c.as_slice-in-FirstUse.ensures.value ∙ c.in_ok-qubits-in-FirstUse.ensures.qubits))
    (first_use_order c.args.circuit.now c.in_ok-qubits-in-FirstUse.ensures.circuit)
