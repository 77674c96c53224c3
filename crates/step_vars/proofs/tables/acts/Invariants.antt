use Rattle.std.proofs.Common.{◌≡◌, ◌*◌, ◌≤◌, length, map}
use Rattle.std.specs.Prelude.{filter}
use Rattle.std.specs.List.{range_with_len, flat_map}
use Rattle.circuit_core.specs.Order.{is_performed}
use Rattle.step_vars.specs.Lists.{cell, able_zones}
use Rattle.step_vars.specs.Tables.{AreBefore}
use Rattle.step_vars.proofs.tables.acts.Given as goal

abbrev pub invariant-loop-op : goal.invariant-loop-op
invariant-loop-op l = record {
  rows : l.acts.rows ≡ l.count;
  cols : l.acts.cols ≡ l.zones;
  members : l.acts.members ≡ flat_map (λ g. map (cell g) (able_zones l.setting g)) (filter (is_performed l.setting.circuit) (range_with_len 0 l.op));
  before : AreBefore l.op 0 l.acts.members;
  few : length l.acts.members ≤ 32 * l.op;
}
