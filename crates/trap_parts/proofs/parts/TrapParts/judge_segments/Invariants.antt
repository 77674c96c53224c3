use Rattle.std.proofs.Common.{◌≡◌, drop}
use Rattle.trap_parts.specs.Build.{are_measured}
use Rattle.trap_parts.proofs.parts.TrapParts.judge_segments.Given as goal

-- the segments before pass
abbrev pub invariant-loop-segment : goal.invariant-loop-segment
invariant-loop-segment l = are_measured (drop l.segment-index l.self.segments.items) ≡ are_measured l.self.segments.items
