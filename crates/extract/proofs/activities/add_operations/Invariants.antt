use Rattle.std.proofs.Common.{◌≡◌, ◌++◌, ◌-◌, map}
use Rattle.std.specs.List.{flat_map, range_with_len}
use Rattle.extract.specs.Reading.{seen, operations_in}
use Rattle.extract.proofs.activities.add_operations.Given as goal

abbrev pub invariant-loop-zone : goal.invariant-loop-zone
invariant-loop-zone l =
    map seen l.out.items ++ flat_map (operations_in l.setting l.ops) (range_with_len l.zone (l.zones - l.zone))
    ≡ map seen l.fn.out.items ++ flat_map (operations_in l.setting l.ops) (range_with_len 0 l.zones)
