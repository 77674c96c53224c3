use Rattle.std.proofs.Common.{ℕ, ◌<◌}
use Rattle.greedy_router.specs.Places.{HasFree}
use Rattle.greedy_router.specs.Traffic.{Frees}
use Rattle.greedy_router.proofs.traffic.Traffic.free_zones.Given as goal

abbrev pub invariant-loop-zone : goal.invariant-loop-zone
invariant-loop-zone l = record {
  frees : Frees l.map.setting l.initial.self l.self;
  free : (k : ℕ) → k < l.zone → HasFree l.map.setting.trap l.self.played.config.lists 2 k;
}
