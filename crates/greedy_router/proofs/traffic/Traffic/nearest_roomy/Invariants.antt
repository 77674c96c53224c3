use Rattle.std.proofs.Common.{ℕ, ◌<◌, length}
use Rattle.std.specs.Prelude.{MatchOption}
use Rattle.greedy_router.specs.Places.{HasFree}
use Rattle.greedy_router.proofs.traffic.Traffic.nearest_roomy.Given as goal

abbrev pub invariant-loop-zone : goal.invariant-loop-zone
invariant-loop-zone l = MatchOption l.best ((k : ℕ) → k < l.zone → ¬ HasFree l.map.setting.trap l.self.played.config.lists 3 k)
    (λ choice. (choice.zone.0 < length l.map.setting.trap.zones) × HasFree l.map.setting.trap l.self.played.config.lists 3 choice.zone.0)
