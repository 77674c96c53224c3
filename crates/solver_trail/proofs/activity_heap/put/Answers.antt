use Rattle.std.proofs.Common.{◌≡◌, length, arith}
use Rattle.solver_trail.proofs.Heaps.{after_put}
use Rattle.solver_trail.proofs.activity_heap.put.Goals as goal

pub returns-clause-permuted : goal.returns-clause-permuted
returns-clause-permuted c =
    let members = c.args.members.now.items in
    let len : length c.sift_up.new.heap ≡ c.push_reserved.new.self.len = omega (arith, c.sift_up.ensures.len, c.deref_mut.ensures.len) in
    after_put c.args.var _ members _ _ _ _ c.push_reserved.ensures.items c.deref_mut.ensures.value len c.sift_up.ensures.permuted
