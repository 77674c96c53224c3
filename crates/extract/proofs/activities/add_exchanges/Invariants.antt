use Rattle.std.proofs.Common.{◌≡◌, ◌++◌, ◌-◌, map}
use Rattle.std.specs.List.{flat_map, range_with_len}
use Rattle.extract.specs.Reading.{seen, exchanges_in}
use Rattle.extract.proofs.activities.add_exchanges.Given as goal

abbrev pub invariant-loop-zone : goal.invariant-loop-zone
invariant-loop-zone l =
    map seen l.out.items ++ flat_map (exchanges_in l.pairs) (range_with_len l.zone (l.zones - l.zone))
    ≡ map seen l.fn.out.items ++ flat_map (exchanges_in l.pairs) (range_with_len 0 l.zones)
