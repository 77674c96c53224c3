use Rattle.std.proofs.Common.{[], sym, ◌∙◌, arith}
use Rattle.circuit_core.specs.Order.{is_performed}
use Rattle.step_vars.specs.Lists.{cell}
use Rattle.step_vars.proofs.Building.{one_passes, one_fails, before_at_row, before_row, longer}
use Rattle.step_vars.proofs.tables.ops.Goals as goal
use Rattle.step_vars.proofs.tables.ops.Goals.{then-is_performed+in_ok-push, else-is_performed}

pub loop-op-preserved : goal.loop-op-preserved
loop-op-preserved c =
    elim c.if-is_performed.branch [
      | then-is_performed+in_ok-push w ↦
          let long = longer _ _ _ w.in_ok-push.ensures.ok in
          rw w.ops-is (record {
            rows = w.in_ok-push.ensures.rows ∙ c.loop-op.invariant.rows;
            cols = w.in_ok-push.ensures.cols ∙ c.loop-op.invariant.cols;
            members = one_passes (λ g. cell g 0) (is_performed c.args.circuit.now) [] _ _ c.loop-op.op (sym c.is_performed.ensures ∙ w.if-is_performed.true) c.loop-op.invariant.members w.in_ok-push.ensures.ok;
            before = before_at_row c.loop-op.op 0 _ _ w.in_ok-push.ensures.ok c.loop-op.invariant.before;
            few = omega (arith, long);
          })
      | else-is_performed w ↦
          rw w.ops-is (record {
            rows = c.loop-op.invariant.rows;
            cols = c.loop-op.invariant.cols;
            members = one_fails (λ g. cell g 0) (is_performed c.args.circuit.now) [] _ c.loop-op.op (sym c.is_performed.ensures ∙ w.if-is_performed.false) c.loop-op.invariant.members;
            before = before_row c.loop-op.op 0 _ c.loop-op.invariant.before;
            few = omega arith;
          })
    ]
