use Rattle.route_find.specs.Search.{AreEnds}
use Rattle.route_find.proofs.numbers.ends.Given as goal

-- the lists have those of the channels so far
abbrev pub invariant-loop-number : goal.invariant-loop-number
invariant-loop-number l = AreEnds l.channels l.places l.number l.ends.items
