use Rattle.std.proofs.Common.{length}
use Rattle.derivation_log.specs.Reading.{task_of}
use Rattle.derivation_log.proofs.FromText.{SoFar}
use Rattle.derivation_log.proofs.log.Log.from_text.Given as goal

abbrev pub invariant-loop-rest : goal.invariant-loop-rest
invariant-loop-rest l = SoFar (task_of l.formula l.vars l.first) l.lines l.rest l.log l.reader.clauses l.place

abbrev pub decreases-loop-rest : goal.decreases-loop-rest
decreases-loop-rest l = length l.rest
