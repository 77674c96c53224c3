use Rattle.std.proofs.Common.{ℕ, ◌<◌, get_or, IsTrue}
use Rattle.trap_parts.specs.Names.{is_name}
use Rattle.trap_parts.specs.declared.parts.SegmentPart.{SegmentPart}
use Rattle.samples.proofs.traps.segments_named.Given as goal

-- the names before have the form
abbrev pub invariant-loop-segment : goal.invariant-loop-segment
invariant-loop-segment l =
    (k : ℕ) (d : SegmentPart) → k < l.segment-index → IsTrue (is_name (get_or l.segments k d).name)
