use Rattle.std.proofs.Common.{◌≡◌, ◌+◌, ◌*◌, ◌≤◌, length, map}
use Rattle.std.specs.List.{range_with_len, flat_map}
use Rattle.step_vars.specs.Lists.{cell, between}
use Rattle.step_vars.specs.Tables.{AreBefore}
use Rattle.step_vars.proofs.tables.pairs.Given as goal

abbrev pub invariant-loop-first : goal.invariant-loop-first
invariant-loop-first l = record {
  rows : l.pairs.rows ≡ l.ions;
  cols : l.pairs.cols ≡ l.ions;
  members : l.pairs.members ≡ flat_map (λ i. map (cell i) (between (i + 1) l.ions)) (range_with_len 0 l.first);
  before : AreBefore l.first 0 l.pairs.members;
  few : length l.pairs.members ≤ 16 * l.first;
}
