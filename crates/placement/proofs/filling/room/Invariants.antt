use Rattle.std.proofs.Common.{◌≡◌, ◌+◌, drop}
use Rattle.placement.specs.Filling.{room}
use Rattle.placement.proofs.filling.room.Given as goal

abbrev pub invariant-loop-zone : goal.invariant-loop-zone
invariant-loop-zone l = l.room + room (drop l.zone-index l.zones) ≡ room l.zones
