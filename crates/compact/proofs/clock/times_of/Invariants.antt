use Rattle.std.proofs.Common.{◌-◌, length}
use Rattle.compact.specs.Clock.{IsKnown}
use Rattle.compact.proofs.clock.times_of.Given as goal

-- the times of so many first actions
abbrev pub invariant-next : goal.invariant-next
invariant-next l = IsKnown l.setting l.actions l.times.items l.clock

abbrev pub decreases-next : goal.decreases-next
decreases-next l = length l.actions - length l.times.items
