use Rattle.std.proofs.Common.{ℕ, ◌&&◌, ap, length, sym, ◌∙◌, arith}
use Rattle.circuit_core.specs.Deciding.{is_forced}
use Rattle.circuit_core.specs.Order.{is_performed}
use Rattle.step_vars.specs.Lists.{cell}
use Rattle.step_vars.proofs.Building.{one_passes, one_fails, all_tested}
use Rattle.step_vars.proofs.tables.push_orders.Goals as goal
use Rattle.step_vars.proofs.tables.push_orders.Goals.{then-is_needed+in_ok-push, else-is_needed}

pub loop-before-preserved : goal.loop-before-preserved
loop-before-preserved c =
    let test = λ (h : ℕ). is_performed c.args.circuit.now h && is_forced c.args.circuit.now h c.args.op in
    elim c.if-is_needed.branch [
      | then-is_needed+in_ok-push w ↦
          rw w.orders-is (one_passes (cell c.args.op) test c.args.orders.now.items _ _ c.loop-before.before (sym c.is_needed.ensures ∙ w.if-is_needed.true) c.loop-before.invariant w.in_ok-push.ensures.items)
      | else-is_needed w ↦
          rw w.orders-is (one_fails (cell c.args.op) test c.args.orders.now.items _ c.loop-before.before (sym c.is_needed.ensures ∙ w.if-is_needed.false) c.loop-before.invariant)
    ]

pub returns : goal.returns
returns c = all_tested (cell c.args.op) (is_performed c.args.circuit.now) (λ h. is_forced c.args.circuit.now h c.args.op) c.args.orders.now.items c.loop-before.orders.items c.loop-before.before _ (omega (arith, ap length c.ops.ensures.ops)) c.loop-before.invariant
