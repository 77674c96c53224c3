use Rattle.std.proofs.Common.{ℕ, ◌<◌}
use Rattle.schedule_play.specs.Progress.{IsOwed}
use Rattle.schedule_play.proofs.progress.least_owed.Given as goal

-- none before is owed
abbrev pub invariant-loop-number : goal.invariant-loop-number
invariant-loop-number l = (needs : ℕ) → needs < l.number → IsOwed l.circuit l.flags l.op.0 needs → ⊥
