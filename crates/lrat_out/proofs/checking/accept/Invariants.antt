use Rattle.std.proofs.Common.{length}
use Rattle.lrat_out.specs.Faults.{task_of}
use Rattle.lrat_out.proofs.Accepting.{SoFar}
use Rattle.lrat_out.proofs.checking.accept.Given as goal

abbrev pub invariant-loop-rest : goal.invariant-loop-rest
invariant-loop-rest l = SoFar (task_of l.formula l.vars) l.text l.rest l.proof l.count l.closed

abbrev pub decreases-loop-rest : goal.decreases-loop-rest
decreases-loop-rest l = length l.rest
