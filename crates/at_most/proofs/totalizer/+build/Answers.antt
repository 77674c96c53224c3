use Rattle.std.proofs.Common.{◌≡◌, ◌+◌, ◌++◌, length, arith}
use Rattle.std.specs.Prelude.{min}
use Rattle.at_most.specs.AtMost.{AddsPrefix}
use Rattle.at_most.specs.Totalizer.{merged, premises, tree_of}
use Rattle.at_most.proofs.Emitted.{emitted_none, emitted_same, emitted_more, emitted_within, emitted_last, emitted_within_last, on_err, on_err_also, on_ok_also}
use Rattle.at_most.proofs.Tree.{tree_of-more, whole_left, whole_right, clauses_more, CanBuild-left, CanBuild-right, AreApart-halves, few_outputs, numbers_fit, right_from_1}
use Rattle.at_most.proofs.totalizer.+build.Goals as goal

pub build-requires : goal.build-requires
build-requires g c = (omega (arith, c.split_at.ensures.front_len, c.decreases), rw c.split_at.ensures.front (CanBuild-left c.args.k c.args.lits.now c.args.next c.if-n-le1.false c.requires))

pub build-requires-2 : goal.build-requires-2
build-requires-2 g c =
    let left_next : c.in_ok-left.left.next ≡ (whole_left c.args.k c.args.lits.now c.args.next).next = rw c.split_at.ensures.front at c.in_ok-left.ensures.free in
    (omega (arith, c.split_at.ensures.back_len, c.decreases), rw (c.split_at.ensures.back, left_next) (CanBuild-right c.args.k c.args.lits.now c.args.next c.if-n-le1.false c.requires))

pub returns-in_err-left-clause-err : goal.returns-in_err-left-clause-err
returns-in_err-left-clause-err g c =
    let all = (tree_of c.args.k c.args.lits.now c.args.next).clauses in
    let begun = emitted_same _ _ _ _ _ (emitted_none c.args.out.now all) (clauses_more c.args.k c.args.lits.now c.args.next c.if-n-le1.false) in
    let part = rw c.split_at.ensures.front at c.in_err-left.ensures.err in
    on_err c.from_residual-in_err-left.result (AddsPrefix c.args.out.now c.build.new.out all) (emitted_within _ _ _ _ _ _ begun part)

pub returns-in_err-right-clause-err : goal.returns-in_err-right-clause-err
returns-in_err-right-clause-err g c =
    let all = (tree_of c.args.k c.args.lits.now c.args.next).clauses in
    let begun = emitted_same _ _ _ _ _ (emitted_none c.args.out.now all) (clauses_more c.args.k c.args.lits.now c.args.next c.if-n-le1.false) in
    let left = rw c.split_at.ensures.front at c.in_ok-left.ensures.ok in
    let after_left = emitted_more _ _ _ _ _ _ begun left in
    let left_next : c.in_ok-left.left.next ≡ (whole_left c.args.k c.args.lits.now c.args.next).next = rw c.split_at.ensures.front at c.in_ok-left.ensures.free in
    let part = rw (c.split_at.ensures.back, left_next) at c.in_err-right.ensures.err in
    on_err c.from_residual-in_err-right.result (AddsPrefix c.args.out.now c.build-2.new.out all) (emitted_within _ _ _ _ _ _ after_left part)

pub join-requires-clause-outputs : goal.join-requires-clause-outputs
join-requires-clause-outputs g c =
    let k = c.args.k in
    let lits = c.args.lits.now in
    let next = c.args.next in
    let left_next : c.in_ok-left.left.next ≡ (whole_left k lits next).next = rw c.split_at.ensures.front at c.in_ok-left.ensures.free in
    let left_outputs : c.in_ok-left.left.lits.items ≡ (whole_left k lits next).outputs = rw c.split_at.ensures.front at c.in_ok-left.ensures.outputs in
    let right_next : c.in_ok-right.right.next ≡ (whole_right k lits next).next = rw (c.split_at.ensures.back, left_next) at c.in_ok-right.ensures.free in
    let right_outputs : c.in_ok-right.right.lits.items ≡ (whole_right k lits next).outputs = rw (c.split_at.ensures.back, left_next) at c.in_ok-right.ensures.outputs in
    rw (c.deref.ensures.value, c.deref-2.ensures.value, left_outputs, right_outputs, right_next) (AreApart-halves k lits next c.if-n-le1.false c.requires)

pub join-requires-clause-from_1 : goal.join-requires-clause-from_1
join-requires-clause-from_1 g c =
    let k = c.args.k in
    let lits = c.args.lits.now in
    let next = c.args.next in
    let left_next : c.in_ok-left.left.next ≡ (whole_left k lits next).next = rw c.split_at.ensures.front at c.in_ok-left.ensures.free in
    let right_next : c.in_ok-right.right.next ≡ (whole_right k lits next).next = rw (c.split_at.ensures.back, left_next) at c.in_ok-right.ensures.free in
    rw right_next (right_from_1 k lits next c.requires.from_1)

pub join-requires-clause-few : goal.join-requires-clause-few
join-requires-clause-few g c =
    let k = c.args.k in
    let lits = c.args.lits.now in
    let next = c.args.next in
    let left_next : c.in_ok-left.left.next ≡ (whole_left k lits next).next = rw c.split_at.ensures.front at c.in_ok-left.ensures.free in
    let left_outputs : c.in_ok-left.left.lits.items ≡ (whole_left k lits next).outputs = rw c.split_at.ensures.front at c.in_ok-left.ensures.outputs in
    let right_outputs : c.in_ok-right.right.lits.items ≡ (whole_right k lits next).outputs = rw (c.split_at.ensures.back, left_next) at c.in_ok-right.ensures.outputs in
    rw (c.deref.ensures.value, c.deref-2.ensures.value, left_outputs, right_outputs) (few_outputs k lits next c.requires)

pub join-requires-clause-numbers : goal.join-requires-clause-numbers
join-requires-clause-numbers g c =
    let k = c.args.k in
    let lits = c.args.lits.now in
    let next = c.args.next in
    let left_next : c.in_ok-left.left.next ≡ (whole_left k lits next).next = rw c.split_at.ensures.front at c.in_ok-left.ensures.free in
    let right_next : c.in_ok-right.right.next ≡ (whole_right k lits next).next = rw (c.split_at.ensures.back, left_next) at c.in_ok-right.ensures.free in
    let most : c.min-most.result ≡ min (length lits) (k + 1) = omega (arith, c.min-most.ensures) in
    rw (right_next, most) (numbers_fit k lits next c.if-n-le1.false c.requires)

pub returns-clause-outputs : goal.returns-clause-outputs
returns-clause-outputs g c =
    let k = c.args.k in
    let lits = c.args.lits.now in
    let next = c.args.next in
    let left_next : c.in_ok-left.left.next ≡ (whole_left k lits next).next = rw c.split_at.ensures.front at c.in_ok-left.ensures.free in
    let right_next : c.in_ok-right.right.next ≡ (whole_right k lits next).next = rw (c.split_at.ensures.back, left_next) at c.in_ok-right.ensures.free in
    let most : c.min-most.result ≡ min (length lits) (k + 1) = omega (arith, c.min-most.ensures) in
    rw (tree_of-more k lits next c.if-n-le1.false) (rw (right_next, most) at c.join.ensures.outputs)

pub returns-clause-free : goal.returns-clause-free
returns-clause-free g c =
    let k = c.args.k in
    let lits = c.args.lits.now in
    let next = c.args.next in
    let left_next : c.in_ok-left.left.next ≡ (whole_left k lits next).next = rw c.split_at.ensures.front at c.in_ok-left.ensures.free in
    let right_next : c.in_ok-right.right.next ≡ (whole_right k lits next).next = rw (c.split_at.ensures.back, left_next) at c.in_ok-right.ensures.free in
    let most : c.min-most.result ≡ min (length lits) (k + 1) = omega (arith, c.min-most.ensures) in
    rw (tree_of-more k lits next c.if-n-le1.false) (rw (right_next, most) at c.join.ensures.free)

pub returns-clause-ok : goal.returns-clause-ok
returns-clause-ok g c =
    let k = c.args.k in
    let lits = c.args.lits.now in
    let next = c.args.next in
    let left_next : c.in_ok-left.left.next ≡ (whole_left k lits next).next = rw c.split_at.ensures.front at c.in_ok-left.ensures.free in
    let right_next : c.in_ok-right.right.next ≡ (whole_right k lits next).next = rw (c.split_at.ensures.back, left_next) at c.in_ok-right.ensures.free in
    let most : c.min-most.result ≡ min (length lits) (k + 1) = omega (arith, c.min-most.ensures) in
    let left_outputs : c.in_ok-left.left.lits.items ≡ (whole_left k lits next).outputs = rw c.split_at.ensures.front at c.in_ok-left.ensures.outputs in
    let right_outputs : c.in_ok-right.right.lits.items ≡ (whole_right k lits next).outputs = rw (c.split_at.ensures.back, left_next) at c.in_ok-right.ensures.outputs in
    let all = (tree_of k lits next).clauses in
    let last = merged (premises (whole_left k lits next).outputs) 0 (premises (whole_right k lits next).outputs) (whole_right k lits next).next (min (length lits) (k + 1)) in
    let begun = emitted_same _ _ _ _ _ (emitted_none c.args.out.now all) (clauses_more k lits next c.if-n-le1.false) in
    let left = rw c.split_at.ensures.front at c.in_ok-left.ensures.ok in
    let right = rw (c.split_at.ensures.back, left_next) at c.in_ok-right.ensures.ok in
    let halves = emitted_more _ _ _ _ _ _ (emitted_more _ _ _ _ _ _ begun left) right in
    on_ok_also c.join.result (c.join.new.out ≡ c.build-2.new.out ++ last) (c.join.new.out ≡ c.args.out.now ++ all)
    (λ step. emitted_last _ _ _ _ _ halves step) (rw (c.deref.ensures.value, c.deref-2.ensures.value, left_outputs, right_outputs, right_next, most) at c.join.ensures.ok)

pub returns-clause-err : goal.returns-clause-err
returns-clause-err g c =
    let k = c.args.k in
    let lits = c.args.lits.now in
    let next = c.args.next in
    let left_next : c.in_ok-left.left.next ≡ (whole_left k lits next).next = rw c.split_at.ensures.front at c.in_ok-left.ensures.free in
    let right_next : c.in_ok-right.right.next ≡ (whole_right k lits next).next = rw (c.split_at.ensures.back, left_next) at c.in_ok-right.ensures.free in
    let most : c.min-most.result ≡ min (length lits) (k + 1) = omega (arith, c.min-most.ensures) in
    let left_outputs : c.in_ok-left.left.lits.items ≡ (whole_left k lits next).outputs = rw c.split_at.ensures.front at c.in_ok-left.ensures.outputs in
    let right_outputs : c.in_ok-right.right.lits.items ≡ (whole_right k lits next).outputs = rw (c.split_at.ensures.back, left_next) at c.in_ok-right.ensures.outputs in
    let all = (tree_of k lits next).clauses in
    let last = merged (premises (whole_left k lits next).outputs) 0 (premises (whole_right k lits next).outputs) (whole_right k lits next).next (min (length lits) (k + 1)) in
    let begun = emitted_same _ _ _ _ _ (emitted_none c.args.out.now all) (clauses_more k lits next c.if-n-le1.false) in
    let left = rw c.split_at.ensures.front at c.in_ok-left.ensures.ok in
    let right = rw (c.split_at.ensures.back, left_next) at c.in_ok-right.ensures.ok in
    let halves = emitted_more _ _ _ _ _ _ (emitted_more _ _ _ _ _ _ begun left) right in
    on_err_also c.join.result (AddsPrefix c.build-2.new.out c.join.new.out last) (AddsPrefix c.args.out.now c.join.new.out all)
    (λ step. emitted_within_last _ _ _ _ _ halves step) (rw (c.deref.ensures.value, c.deref-2.ensures.value, left_outputs, right_outputs, right_next, most) at c.join.ensures.err)
