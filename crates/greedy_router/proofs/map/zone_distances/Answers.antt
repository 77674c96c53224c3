use Rattle.greedy_router.proofs.Rounds.{zone_distances_more}
use Rattle.greedy_router.proofs.map.zone_distances.Goals as goal

-- src/map.rt:44:5
pub loop-zone-preserved : goal.loop-zone-preserved
loop-zone-preserved c =
    let more = zone_distances_more c.args.trap.now c.loop-zone.zone c.loop-zone.zone_distances.items c.in_ok-to.field-0 c.loop-zone.invariant c.in_ok-to.ensures.distances c.in_ok-to.ensures.target in
    rw c.in_ok-push.ensures.items more
