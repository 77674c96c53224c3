use Rattle.std.proofs.Common.{ℕ, ◌<◌}
use Rattle.schedule_play.specs.Progress.{IsUndone}
use Rattle.schedule_play.proofs.progress.Progress.missing.Given as goal

-- none before is missing
abbrev pub invariant-loop-number : goal.invariant-loop-number
invariant-loop-number l = (op : ℕ) → op < l.number → IsUndone l.circuit l.self.done.items op → ⊥
