use Rattle.std.proofs.Common.{◌≡◌, ℕ, ◌<◌, ◌≤◌, Some}
use Rattle.std.specs.Prelude.{slice_get}
use Rattle.qc_base.specs.declared.ids.OpId.{OpId}
use Rattle.schedule_play.specs.Ready.{settled_after}
use Rattle.schedule_play.proofs.ready.all_settled_after.Given as goal

-- the first of them are settled by then
abbrev pub invariant-loop-op : goal.invariant-loop-op
invariant-loop-op l = (k : ℕ) (other : OpId) → k < l.op-index → slice_get l.nearest k ≡ Some other → settled_after l.circuit l.firsts l.ready other.0 ≤ l.last
