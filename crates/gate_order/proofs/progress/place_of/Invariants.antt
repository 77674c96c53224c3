use Rattle.std.proofs.Common.{ℕ, ◌<◌}
use Rattle.std.specs.Prelude.{slice_index_or}
use Rattle.qc_base.specs.declared.ids.OpId.{OpId}
use Rattle.gate_order.proofs.progress.place_of.Given as goal

-- those so far are before the operation
abbrev pub invariant-loop-index : goal.invariant-loop-index
invariant-loop-index l = (k : ℕ) (d : OpId) → k < l.index → (slice_index_or l.ready k d).0 < l.op.0
