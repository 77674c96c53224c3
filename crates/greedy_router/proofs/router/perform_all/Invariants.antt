use Rattle.std.proofs.Common.{◌≡◌, length}
use Rattle.greedy_router.specs.Places.{IsUncrowded}
use Rattle.greedy_router.specs.Traffic.{IsTraffic, ready_after}
use Rattle.greedy_router.proofs.Undone.{undone}
use Rattle.greedy_router.proofs.router.perform_all.Given as goal

abbrev pub invariant-loop-map : goal.invariant-loop-map
invariant-loop-map l = record {
  traffic : IsTraffic l.map.setting l.traffic;
  uncrowded : IsUncrowded l.map.setting.trap l.traffic.played.config.lists;
  ready : l.ready ≡ ready_after l.map.setting l.traffic.played.actions.items;
}

abbrev pub decreases-loop-map : goal.decreases-loop-map
decreases-loop-map l = undone (length l.map.setting.circuit.ops) l.ready.done
