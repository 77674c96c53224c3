use Rattle.greedy_router.specs.Routing.{AreZoneDistances}
use Rattle.greedy_router.proofs.map.zone_distances.Given as goal

abbrev pub invariant-loop-zone : goal.invariant-loop-zone
invariant-loop-zone l = AreZoneDistances l.trap l.zone l.zone_distances.items
