use Rattle.std.proofs.Common.{◌≡◌, map}
use Rattle.std.specs.List.{range_with_len}
use Rattle.load_setup.specs.Setup.{zone_part}
use Rattle.load_setup.proofs.trap.zones.Given as goal

abbrev pub invariant-loop-number : goal.invariant-loop-number
invariant-loop-number l = l.zones.items ≡ map zone_part (range_with_len 0 l.number)
