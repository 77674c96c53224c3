use Rattle.std.proofs.Common.{◌≡◌, ◌+◌, ◌*◌, ◌-◌, ◌≤◌, ◌++◌, length, map}
use Rattle.std.specs.List.{range_with_len}
use Rattle.step_vars.specs.Lists.{cell}
use Rattle.step_vars.specs.Tables.{AreBefore}
use Rattle.step_vars.proofs.tables.push_seconds.Given as goal

-- the pairs with the ions before this one were added
abbrev pub invariant-loop-second : goal.invariant-loop-second
invariant-loop-second l = record {
  rows : l.pairs.rows ≡ l.ions;
  cols : l.pairs.cols ≡ l.ions;
  members : l.pairs.members ≡ l.fn.pairs.members ++ map (cell l.first) (range_with_len (l.first + 1) (l.second - (l.first + 1)));
  before : AreBefore l.first l.second l.pairs.members;
  few : length l.pairs.members + (l.first + 1) ≤ 16 * l.first + l.second;
}
