use Rattle.std.proofs.Common.{◌≡◌, ◌++◌, map, drop}
use Rattle.extract.specs.Reading.{seen, passages_from}
use Rattle.extract.proofs.activities.add_passages.Given as goal

abbrev pub invariant-loop-number : goal.invariant-loop-number
invariant-loop-number l =
    map seen l.out.items ++ passages_from l.number (drop l.number l.channels)
    ≡ map seen l.fn.out.items ++ passages_from 0 l.channels
