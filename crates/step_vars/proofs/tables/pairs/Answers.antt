use Rattle.std.proofs.Common.{◌+◌, map}
use Rattle.step_vars.specs.Lists.{cell, between}
use Rattle.step_vars.proofs.Building.{part_more}
use Rattle.step_vars.proofs.tables.pairs.Goals as goal

pub loop-first-preserved : goal.loop-first-preserved
loop-first-preserved c = record {
  rows = c.in_ok-push_seconds.ensures.rows;
  cols = c.in_ok-push_seconds.ensures.cols;
  members = part_more (λ i. map (cell i) (between (i + 1) c.args.ions)) _ _ c.loop-first.first c.loop-first.invariant.members c.in_ok-push_seconds.ensures.ok;
  before = c.in_ok-push_seconds.ensures.after;
  few = c.in_ok-push_seconds.ensures.more;
}
