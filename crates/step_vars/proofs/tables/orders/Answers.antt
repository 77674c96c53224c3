use Rattle.std.proofs.Common.{map, sym, ◌∙◌}
use Rattle.circuit_core.specs.Order.{is_performed}
use Rattle.step_vars.specs.Lists.{cell, forced_before}
use Rattle.step_vars.proofs.Building.{part_passes, part_fails}
use Rattle.step_vars.proofs.tables.orders.Goals as goal
use Rattle.step_vars.proofs.tables.orders.Goals.{then-is_performed+in_ok-push_orders, else-is_performed}

pub loop-op-preserved : goal.loop-op-preserved
loop-op-preserved c =
    elim c.if-is_performed.branch [
      | then-is_performed+in_ok-push_orders w ↦
          rw w.orders-is (part_passes (λ g. map (cell g) (forced_before c.args.circuit.now g)) (is_performed c.args.circuit.now) _ _ c.loop-op.op (sym c.is_performed.ensures ∙ w.if-is_performed.true) c.loop-op.invariant w.in_ok-push_orders.ensures)
      | else-is_performed w ↦
          rw w.orders-is (part_fails (λ g. map (cell g) (forced_before c.args.circuit.now g)) (is_performed c.args.circuit.now) _ c.loop-op.op (sym c.is_performed.ensures ∙ w.if-is_performed.false) c.loop-op.invariant)
    ]
