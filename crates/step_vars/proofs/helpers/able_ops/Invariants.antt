use Rattle.std.proofs.Common.{◌≡◌, ◌≤◌, ◌&&◌, length}
use Rattle.std.specs.Prelude.{filter}
use Rattle.std.specs.List.{range_with_len}
use Rattle.circuit_core.specs.Order.{is_performed}
use Rattle.step_rules.specs.Guards.{is_able_for}
use Rattle.step_vars.proofs.helpers.able_ops.Given as goal

abbrev pub invariant-loop-op : goal.invariant-loop-op
invariant-loop-op l = record {
  counted : l.count ≡ length (filter (λ g. is_performed l.setting.circuit g && is_able_for l.setting l.zone.0 g) (range_with_len 0 l.op));
  few : l.count ≤ l.op;
}
