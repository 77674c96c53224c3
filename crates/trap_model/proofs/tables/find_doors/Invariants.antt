use Rattle.std.proofs.Common.{◌≡◌, map}
use Rattle.std.specs.List.{range_with_len}
use Rattle.trap_model.specs.Tables.{doors_of}
use Rattle.trap_model.proofs.tables.find_doors.Given as goal

-- the doors of the zones below
abbrev pub invariant-loop-zone : goal.invariant-loop-zone
invariant-loop-zone l = l.doors.items ≡ map (doors_of l.channels) (range_with_len 0 l.zone)
