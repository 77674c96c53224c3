use Rattle.std.proofs.Common.{ℕ, ◌<◌}
use Rattle.route_find.specs.Walks.{IsReachable}
use Rattle.greedy_router.proofs.has_room.unreached.Given as goal

abbrev pub invariant-loop-zone : goal.invariant-loop-zone
invariant-loop-zone l = (k : ℕ) → k < l.zone → IsReachable l.setting.trap 0 k
