use Rattle.std.proofs.Common.{length}
use Rattle.certificate_lines.proofs.Hints.{HintsSoFar}
use Rattle.certificate_lines.proofs.items.read_hints.Given as goal

abbrev pub invariant-loop-item : goal.invariant-loop-item
invariant-loop-item l = HintsSoFar l.number l.bytes l.hints.items l.rest

abbrev pub decreases-loop-item : goal.decreases-loop-item
decreases-loop-item l = length l.rest
