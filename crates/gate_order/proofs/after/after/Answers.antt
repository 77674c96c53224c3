use Rattle.std.proofs.Common.{◌≡◌, List, ℕ, length, drop, arith, ap, subst}
use Rattle.std.proofs.lemmas.List.{take_at}
use Rattle.circuit_core.specs.declared.op.Op.{Op}
use Rattle.gate_order.specs.Keeping.{AreBelow, AreAdded}
use Rattle.gate_order.proofs.Rows.{after_more, row_below}
use Rattle.gate_order.proofs.after.after.Goals as goal

pub add-requires : goal.add-requires
add-requires c =
    let same : length c.args.nearest.now ≡ length c.deref_mut.result.now = omega (arith, c.deref_mut.ensures.len, c.loop-number.invariant.len, c.loop-number.lists.ok.0) in
    subst (λ n. AreBelow n c.of.result.now) same (row_below c.args.circuit.now c.args.nearest.now c.loop-number.number c.of.result.now c.requires c.of.ensures)

pub loop-number-preserved : goal.loop-number-preserved
loop-number-preserved c =
    let old : c.deref_mut.result.now ≡ c.loop-number.lists.items = c.deref_mut.ensures.value in
    let added = subst (λ (l : List (List ℕ)). AreAdded c.of.result.now (length c.of.result.now) c.loop-number.number l c.add.new.lists) old c.in_ok-add.ensures in
    let many : length c.add.new.lists ≡ c.loop-number.lists.len = omega (arith, added.len, c.loop-number.lists.ok.0) in
    rw (take_at c.add.new.lists (drop (length c.add.new.lists) c.loop-number.lists.items) c.loop-number.lists.len many)
    (after_more c.args.nearest.now c.loop-number.number c.loop-number.lists.items c.add.new.lists c.of.result.now c.loop-number.invariant
    (omega (arith, c.loop-number-test.true, ap (λ (l : List Op). length l) c.ops-count.ensures.ops, c.requires.len)) c.of.ensures added)
