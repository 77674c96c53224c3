use Rattle.std.proofs.Common.{length}
use Rattle.certificate_lines.proofs.Literals.{LiteralsSoFar}
use Rattle.certificate_lines.proofs.items.read_literals.Given as goal

abbrev pub invariant-loop-item : goal.invariant-loop-item
invariant-loop-item l = LiteralsSoFar l.vars l.bytes l.lits.items l.rest

abbrev pub decreases-loop-item : goal.decreases-loop-item
decreases-loop-item l = length l.rest
