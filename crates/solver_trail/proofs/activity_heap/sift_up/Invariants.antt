use Rattle.std.proofs.Common.{◌≡◌, ◌<◌, length, IsPermutation}
use Rattle.solver_trail.proofs.activity_heap.sift_up.Given as goal

abbrev pub invariant-loop-at : goal.invariant-loop-at
invariant-loop-at l = record {
  permuted : IsPermutation l.fn.heap l.heap;
  len : length l.heap ≡ length l.fn.heap;
  within : l.at < length l.heap;
}

abbrev pub decreases-loop-at : goal.decreases-loop-at
decreases-loop-at l = l.at
