use Rattle.route_find.proofs.Expanding.{IsExpanding}
use Rattle.route_find.proofs.search.expand.Given as goal

-- the places from which the channels so far lead are reached
abbrev pub invariant-loop-number : goal.invariant-loop-number
invariant-loop-number l = IsExpanding l.channels l.fn.queue.items l.head l.distance l.queue.items l.rows l.number-items l.number-index
