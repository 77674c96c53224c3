use Rattle.std.proofs.Common.{◌≤◌, ◌-◌, length}
use Rattle.solver_trail.proofs.recent.Recent.put_back.Given as goal

abbrev pub invariant-loop-index : goal.invariant-loop-index
invariant-loop-index l = l.index ≤ length l.self-inside.heap.taken

abbrev pub decreases-loop-index : goal.decreases-loop-index
decreases-loop-index l = length l.self-inside.heap.taken - l.index
