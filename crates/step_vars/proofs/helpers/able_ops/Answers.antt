use Rattle.std.proofs.Common.{◌≡◌, ℕ, ◌&&◌, length, ap, sym, ◌∙◌, arith}
use Rattle.std.specs.Prelude.{filter}
use Rattle.std.specs.List.{range_with_len}
use Rattle.circuit_core.specs.Order.{is_performed}
use Rattle.step_rules.specs.Setting.{SettingValue}
use Rattle.step_rules.specs.Guards.{is_able_for}
use Rattle.step_vars.proofs.Ranges.{filter_both}
use Rattle.step_vars.proofs.Limited.{count_passes, count_fails}
use Rattle.step_vars.proofs.helpers.able_ops.Goals as goal
use Rattle.step_vars.proofs.helpers.able_ops.Goals.{then-may_perform, else-may_perform}

pub loop-op-preserved : goal.loop-op-preserved
loop-op-preserved c =
    let test = λ (g : ℕ). is_performed c.args.setting.now.circuit g && is_able_for c.args.setting.now c.args.zone.0 g in
    elim c.if-may_perform.branch [
      | then-may_perform w ↦
          rw w.count-is (record { counted = count_passes test c.loop-op.count c.loop-op.op (sym c.may_perform.ensures ∙ w.if-may_perform.true) c.loop-op.invariant.counted; few = omega arith })
      | else-may_perform w ↦
          rw w.count-is (record { counted = count_fails test c.loop-op.count c.loop-op.op (sym c.may_perform.ensures ∙ w.if-may_perform.false) c.loop-op.invariant.counted; few = omega arith })
    ]

pub returns-clause-count : goal.returns-clause-count
returns-clause-count c =
    let view = ap (λ (s : SettingValue). length s.circuit.ops) c.setting.view_is in
    let all : c.loop-op.op ≡ length c.args.setting.now.circuit.ops = omega (arith, ap length c.ops.ensures.ops, view) in
    c.loop-op.invariant.counted
    ∙ ap (λ n. length (filter (λ g. is_performed c.args.setting.now.circuit g && is_able_for c.args.setting.now c.args.zone.0 g) (range_with_len 0 n))) all
    ∙ ap length (sym (filter_both (is_performed c.args.setting.now.circuit) (λ g. is_able_for c.args.setting.now c.args.zone.0 g) (range_with_len 0 (length c.args.setting.now.circuit.ops))))
