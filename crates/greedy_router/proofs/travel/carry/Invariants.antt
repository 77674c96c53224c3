use Rattle.std.specs.Prelude.{unwrap_or, IsSome}
use Rattle.route_find.specs.Distances.{distance_at}
use Rattle.greedy_router.specs.Traffic.{Carries}
use Rattle.greedy_router.proofs.travel.carry.Given as goal

abbrev pub invariant-loop-number : goal.invariant-loop-number
invariant-loop-number l = record {
  carries : Carries l.setting l.initial.played l.played l.ion.0 l.initial.place.0 l.place.0;
  reached : IsSome (distance_at l.distances l.place.0);
}

abbrev pub decreases-loop-number : goal.decreases-loop-number
decreases-loop-number l = unwrap_or (distance_at l.distances l.place.0) 0
