use Rattle.std.proofs.Common.{◌≡◌, ℕ, ◌<◌, true}
use Rattle.circuit_core.specs.Order.{is_performed}
use Rattle.greedy_router.specs.Room.{HasAbleZone}
use Rattle.greedy_router.proofs.has_room.unable.Given as goal

abbrev pub invariant-loop-number : goal.invariant-loop-number
invariant-loop-number l = (k : ℕ) → k < l.number → is_performed l.setting.circuit k ≡ true → HasAbleZone l.setting k
