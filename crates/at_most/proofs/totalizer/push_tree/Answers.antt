use Rattle.std.proofs.Common.{◌∷◌, [], ◌∙◌, ap, length, map, drop, arith}
use Rattle.sat_base.specs.Literal.{negated}
use Rattle.at_most.specs.AtMost.{AddsPrefix}
use Rattle.at_most.specs.Totalizer.{totalizer, tree_of}
use Rattle.at_most.proofs.Emitted.{emitted_none, emitted_more, emitted_last, emitted_within, on_err}
use Rattle.at_most.proofs.Tree.{next-built, length-whole, CanBuild-whole, last_output}
use Rattle.at_most.proofs.totalizer.push_tree.Goals as goal

pub build-requires : goal.build-requires
build-requires c = CanBuild-whole c.args.k c.args.lits.now c.args.next c.requires.limit c.requires.room

pub returns-in_err-whole-clause-err : goal.returns-in_err-whole-clause-err
returns-in_err-whole-clause-err c =
    let whole = tree_of c.args.k c.args.lits.now c.args.next in
    let all = totalizer c.args.lits.now c.args.k c.args.next in
    on_err c.from_residual.result (AddsPrefix c.args.out.now c.build.new.out all)
    (emitted_within c.args.out.now c.args.out.now c.build.new.out all whole.clauses (map negated (drop c.args.k whole.outputs) ∷ []) (emitted_none c.args.out.now all) c.in_err-whole.ensures.err)

pub index-last-requires : goal.index-last-requires
index-last-requires c =
    let full = length-whole c.args.k c.args.lits.now c.args.next c.requires.limit.below in
    let count = ap length c.in_ok-whole.ensures.outputs in
    omega (arith, full, count, c.in_ok-whole.whole.lits.ok.0)

pub returns-clause-free : goal.returns-clause-free
returns-clause-free c = c.in_ok-whole.ensures.free ∙ next-built (length c.args.lits.now) c.args.k c.args.lits.now c.args.next

pub returns-clause-ok : goal.returns-clause-ok
returns-clause-ok c =
    let whole = tree_of c.args.k c.args.lits.now c.args.next in
    let all = totalizer c.args.lits.now c.args.k c.args.next in
    let found = rw c.in_ok-whole.ensures.outputs at c.index-last.ensures in
    let last = last_output whole.outputs c.args.k c.index-last.result.now (length-whole c.args.k c.args.lits.now c.args.next c.requires.limit.below) found in
    let done = emitted_more c.args.out.now c.args.out.now c.build.new.out all whole.clauses (map negated (drop c.args.k whole.outputs) ∷ []) (emitted_none c.args.out.now all) c.in_ok-whole.ensures.ok in
    let step = rw (c.negated.ensures, ← last) at c.in_ok-push.ensures.ok in
    emitted_last _ _ _ _ _ done step
