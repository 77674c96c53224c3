use Rattle.std.specs.Prelude.{unwrap_or}
use Rattle.route_find.specs.Distances.{distance_at}
use Rattle.route_find.proofs.Following.{IsFollowed}
use Rattle.route_find.proofs.routes.follow.Given as goal

abbrev pub invariant-loop-number : goal.invariant-loop-number
invariant-loop-number l = IsFollowed l.trap l.distances l.initial.place.0 l.route.items l.place.0

abbrev pub decreases-loop-number : goal.decreases-loop-number
decreases-loop-number l = unwrap_or (distance_at l.distances l.place.0) 0
