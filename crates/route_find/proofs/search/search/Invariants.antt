use Rattle.std.proofs.Common.{◌≡◌, ◌-◌, length}
use Rattle.route_find.specs.Search.{IsSearch, first}
use Rattle.route_find.proofs.search.search.Given as goal

abbrev pub invariant-loop-head : goal.invariant-loop-head
invariant-loop-head l = record {
  search : IsSearch l.channels l.target l.head l.queue.items l.rows.items;
  first : first l.queue.items ≡ l.target;
  len : length l.rows.items ≡ l.places;
}

abbrev pub decreases-loop-head : goal.decreases-loop-head
decreases-loop-head l = l.places - l.head
