use Rattle.std.proofs.Common.{◌≡◌, ℕ, ◌<◌, false}
use Rattle.trap_model.specs.Trap.{is_able}
use Rattle.greedy_router.proofs.has_room.is_met.Given as goal

abbrev pub invariant-loop-zone : goal.invariant-loop-zone
invariant-loop-zone l = (k : ℕ) → k < l.zone → is_able l.trap k l.need ≡ false
