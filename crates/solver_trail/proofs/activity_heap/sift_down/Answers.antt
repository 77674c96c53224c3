use Rattle.std.proofs.Common.{arith}
use Rattle.solver_trail.proofs.Heaps.{permuted_on}
use Rattle.solver_trail.proofs.activity_heap.sift_down.Goals as goal

pub loop-child-preserved : goal.loop-child-preserved
loop-child-preserved c = record {
  permuted = permuted_on c.loop-child.invariant.permuted c.exchange.ensures.permuted;
  len = cc;
  within = omega (arith, c.in-Some.ensures, c.exchange.ensures.len);
}
