use Rattle.std.proofs.Common.{arith}
use Rattle.solver_trail.proofs.Heaps.{permuted_on}
use Rattle.solver_trail.proofs.activity_heap.sift_up.Goals as goal

pub loop-at-preserved : goal.loop-at-preserved
loop-at-preserved c = record {
  permuted = permuted_on c.loop-at.invariant.permuted c.exchange.ensures.permuted;
  len = cc;
  within = omega (arith, c.loop-at.invariant.within, c.exchange.ensures.len);
}
