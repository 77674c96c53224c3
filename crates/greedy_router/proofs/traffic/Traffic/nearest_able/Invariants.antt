use Rattle.std.proofs.Common.{◌≡◌, ℕ, ◌<◌, length, true}
use Rattle.std.specs.Prelude.{MatchOption}
use Rattle.trap_model.specs.Trap.{is_able}
use Rattle.greedy_router.proofs.traffic.Traffic.nearest_able.Given as goal

abbrev pub invariant-loop-zone : goal.invariant-loop-zone
invariant-loop-zone l = MatchOption l.best ((k : ℕ) → k < l.zone → ¬ is_able l.map.setting.trap k l.job.need ≡ true)
    (λ choice. (choice.zone.0 < length l.map.setting.trap.zones) × (is_able l.map.setting.trap choice.zone.0 l.job.need ≡ true))
