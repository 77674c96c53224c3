use Rattle.std.proofs.Common.{◌≡◌, ◌+◌, ◌<◌, ◌^◌, length, drop}
use Rattle.step_rules.specs.Placement.{reading_order}
use Rattle.schedule_tests.proofs.tests.rules.placed_count.Given as goal

-- so far, and the rest
abbrev pub invariant-loop-list : goal.invariant-loop-list
invariant-loop-list l = record {
  so_far : l.count + length (reading_order (drop l.list-index l.lists)) ≡ length (reading_order l.lists);
  few : length (reading_order l.lists) < 2 ^ 32;
}
