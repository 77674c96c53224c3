use Rattle.std.proofs.Common.{◌≡◌, ◌≤◌, length, map}
use Rattle.std.specs.Prelude.{filter}
use Rattle.std.specs.List.{range_with_len}
use Rattle.circuit_core.specs.Order.{is_performed}
use Rattle.step_vars.specs.Lists.{cell}
use Rattle.step_vars.specs.Tables.{AreBefore}
use Rattle.step_vars.proofs.tables.ops.Given as goal

abbrev pub invariant-loop-op : goal.invariant-loop-op
invariant-loop-op l = record {
  rows : l.ops.rows ≡ l.count;
  cols : l.ops.cols ≡ 1;
  members : l.ops.members ≡ map (λ g. cell g 0) (filter (is_performed l.circuit) (range_with_len 0 l.op));
  before : AreBefore l.op 0 l.ops.members;
  few : length l.ops.members ≤ l.op;
}
