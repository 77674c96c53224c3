use Rattle.std.proofs.Common.{take}
use Rattle.solver_trail.specs.Trail.{literals_of}
use Rattle.solver_trail.proofs.Statuses.{IsSoFar}
use Rattle.solver_trail.proofs.status.status_of.Given as goal

abbrev pub invariant-loop-literal : goal.invariant-loop-literal
invariant-loop-literal l = IsSoFar (literals_of l.values.entries) (take l.literal-index l.clause) l.unassigned
