use Rattle.std.proofs.Common.{◌≡◌}
use Rattle.std.specs.List.{flat_map, range_with_len}
use Rattle.load_setup.specs.Setup.{joins_at}
use Rattle.load_setup.proofs.trap.joins.Given as goal

abbrev pub invariant-loop-number : goal.invariant-loop-number
invariant-loop-number l = l.joins.items ≡ flat_map joins_at (range_with_len 0 l.number)
