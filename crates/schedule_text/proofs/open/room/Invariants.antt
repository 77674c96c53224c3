use Rattle.std.proofs.Common.{◌≡◌, ◌+◌, ◌<◌, ◌^◌, drop}
use Rattle.schedule_text.specs.Progress.{capacity}
use Rattle.schedule_text.proofs.open.room.Given as goal

-- so far, and the rest
abbrev pub invariant-loop-zone : goal.invariant-loop-zone
invariant-loop-zone l = record {
  so_far : l.room + capacity (drop l.zone-index l.zones) ≡ capacity l.zones;
  few : capacity l.zones < 2 ^ 32;
}
