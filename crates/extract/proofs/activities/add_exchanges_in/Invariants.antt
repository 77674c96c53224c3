use Rattle.std.proofs.Common.{◌≡◌, ◌++◌, map, drop}
use Rattle.extract.specs.Reading.{seen, exchanges_in}
use Rattle.extract.proofs.activities.add_exchanges_in.Given as goal

abbrev pub invariant-loop-pair : goal.invariant-loop-pair
invariant-loop-pair l =
    map seen l.out.items ++ exchanges_in (drop l.pair-index l.pairs) l.zone
    ≡ map seen l.fn.out.items ++ exchanges_in l.pairs l.zone
