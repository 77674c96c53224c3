use Rattle.std.proofs.Common.{ℕ, ◌<◌, ◌≤◌}
use Rattle.greedy_router.specs.Room.{free_at}
use Rattle.greedy_router.proofs.has_room.tight.Given as goal

abbrev pub invariant-loop-zone : goal.invariant-loop-zone
invariant-loop-zone l = (k : ℕ) → k < l.zone → 2 ≤ free_at l.setting k
