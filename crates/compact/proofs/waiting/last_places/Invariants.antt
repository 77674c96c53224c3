use Rattle.std.proofs.Common.{take}
use Rattle.compact.specs.Orders.{AreLastPlaces}
use Rattle.compact.proofs.waiting.last_places.Given as goal

-- the last of so many first actions
abbrev pub invariant-loop-place : goal.invariant-loop-place
invariant-loop-place l = AreLastPlaces (take l.place l.actions) l.last
