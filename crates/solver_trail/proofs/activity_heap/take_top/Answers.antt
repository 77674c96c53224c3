use Rattle.std.proofs.Common.{◌≡◌, ◌<◌, length, arith}
use Rattle.solver_trail.proofs.Heaps.{after_pop, after_removed}
use Rattle.solver_trail.proofs.activity_heap.take_top.Goals as goal

pub returns-then-not-is_empty-clause-permuted : goal.returns-then-not-is_empty-clause-permuted
returns-then-not-is_empty-clause-permuted c =
    let members = c.args.members.now.items in
    let removed = c.swap_remove-var.ensures in
    let shown = c.deref_mut.ensures in
    let len : length c.sift_down.new.heap ≡ c.swap_remove-var.new.self.len = omega (arith, c.sift_down.ensures.len, shown.len) in
    let low : 0 < length members = omega arith in
    after_pop _ _ 0 members _ _ _ _ low removed.value removed.items shown.value len c.sift_down.ensures.permuted

pub returns-else-not-is_empty-clause-permuted : goal.returns-else-not-is_empty-clause-permuted
returns-else-not-is_empty-clause-permuted c =
    let members = c.args.members.now.items in
    let removed = c.swap_remove-var.ensures in
    let low : 0 < length members = omega arith in
    after_removed _ 0 members _ low removed.value removed.items
