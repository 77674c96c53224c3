use Rattle.std.proofs.Common.{◌≡◌, ◌+◌, ◌*◌, ◌≤◌, ◌++◌, length, map}
use Rattle.std.specs.Prelude.{filter}
use Rattle.std.specs.List.{range_with_len}
use Rattle.step_rules.specs.Guards.{is_able_for}
use Rattle.step_vars.specs.Lists.{cell}
use Rattle.step_vars.specs.Tables.{AreBefore}
use Rattle.step_vars.proofs.tables.push_zones.Given as goal

abbrev pub invariant-loop-zone : goal.invariant-loop-zone
invariant-loop-zone l = record {
  rows : l.acts.rows ≡ l.fn.acts.rows;
  cols : l.acts.cols ≡ l.zones;
  members : l.acts.members ≡ l.fn.acts.members ++ map (cell l.op) (filter (λ z. is_able_for l.setting z l.op) (range_with_len 0 l.zone));
  before : AreBefore l.op l.zone l.acts.members;
  few : length l.acts.members ≤ 32 * l.op + l.zone;
}
