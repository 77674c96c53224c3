use Rattle.std.proofs.Common.{◌≢◌, ℕ, ◌<◌}
use Rattle.std.specs.Fmt.{decimal}
use Rattle.trap_model.proofs.place_text.slot_written.Given as goal

-- no number below is written so
abbrev pub invariant-loop-k : goal.invariant-loop-k
invariant-loop-k l = (j : ℕ) → j < l.k → decimal j ≢ l.text
