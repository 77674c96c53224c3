use Rattle.std.proofs.Common.{arith}
use Rattle.solver_trail.proofs.Heaps.{after_removed}
use Rattle.solver_trail.proofs.activity_heap.take_out.Goals as goal

pub returns-clause-permuted : goal.returns-clause-permuted
returns-clause-permuted c =
    let taken = c.args.taken.now.items in
    after_removed _ c.args.index taken _ (omega arith) c.swap_remove.ensures.value c.swap_remove.ensures.items
