use Rattle.std.proofs.Common.{◌≡◌, ◌-◌, ◌<◌, length, IsPermutation}
use Rattle.solver_trail.proofs.activity_heap.sift_down.Given as goal

abbrev pub invariant-loop-child : goal.invariant-loop-child
invariant-loop-child l = record {
  permuted : IsPermutation l.fn.heap l.heap;
  len : length l.heap ≡ length l.fn.heap;
  within : l.at < length l.heap;
}

abbrev pub decreases-loop-child : goal.decreases-loop-child
decreases-loop-child l = length l.heap - l.at
