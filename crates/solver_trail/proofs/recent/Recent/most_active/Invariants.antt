use Rattle.std.proofs.Common.{length}
use Rattle.solver_trail.proofs.recent.Recent.most_active.Given as goal

abbrev pub decreases-loop-var : goal.decreases-loop-var
decreases-loop-var l = length l.self-inside.heap.members
