use Rattle.std.proofs.Common.{◌≡◌, take}
use Rattle.compact.proofs.tight.schedule_of.Given as goal

abbrev pub invariant-loop-row : goal.invariant-loop-row
invariant-loop-row l = l.schedule ≡ take l.row-index l.rows
