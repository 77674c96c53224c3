use Rattle.std.proofs.Common.{ap, map, sym, ◌∙◌, arith}
use Rattle.step_rules.specs.Setting.{SettingValue}
use Rattle.circuit_core.specs.Order.{is_performed}
use Rattle.step_vars.specs.Lists.{cell, able_zones}
use Rattle.step_vars.proofs.Building.{part_passes, part_fails, before_row}
use Rattle.step_vars.proofs.tables.acts.Goals as goal
use Rattle.step_vars.proofs.tables.acts.Goals.{then-is_performed+in_ok-push_zones, else-is_performed}

pub loop-op-preserved : goal.loop-op-preserved
loop-op-preserved c =
    let view = ap (λ (s : SettingValue). is_performed s.circuit c.loop-op.op) (sym c.setting.view_is) in
    elim c.if-is_performed.branch [
      | then-is_performed+in_ok-push_zones w ↦
          rw w.acts-is (record {
            rows = w.in_ok-push_zones.ensures.rows ∙ c.loop-op.invariant.rows;
            cols = w.in_ok-push_zones.ensures.cols ∙ c.loop-op.invariant.cols;
            members = part_passes (λ g. map (cell g) (able_zones c.args.setting.now g)) (is_performed c.args.setting.now.circuit) _ _ c.loop-op.op (view ∙ sym c.is_performed.ensures ∙ w.if-is_performed.true) c.loop-op.invariant.members w.in_ok-push_zones.ensures.ok;
            before = w.in_ok-push_zones.ensures.after;
            few = w.in_ok-push_zones.ensures.more;
          })
      | else-is_performed w ↦
          rw w.acts-is (record {
            rows = c.loop-op.invariant.rows;
            cols = c.loop-op.invariant.cols;
            members = part_fails (λ g. map (cell g) (able_zones c.args.setting.now g)) (is_performed c.args.setting.now.circuit) _ c.loop-op.op (view ∙ sym c.is_performed.ensures ∙ w.if-is_performed.false) c.loop-op.invariant.members;
            before = before_row c.loop-op.op 0 _ c.loop-op.invariant.before;
            few = omega arith;
          })
    ]
