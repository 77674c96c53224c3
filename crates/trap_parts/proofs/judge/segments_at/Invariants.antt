use Rattle.std.proofs.Common.{◌≡◌, ◌++◌, drop}
use Rattle.trap_parts.specs.Build.{segments_at}
use Rattle.trap_parts.proofs.judge.segments_at.Given as goal

-- the segments so far, and the rest
abbrev pub invariant-loop-link : goal.invariant-loop-link
invariant-loop-link l = l.segments.items ++ segments_at l.junction (drop l.link-index l.links) ≡ segments_at l.junction l.links
