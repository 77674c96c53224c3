use Rattle.std.proofs.Common.{sym, ◌∙◌}
use Rattle.qasm_read.proofs.Runs.{reduced_some, reduced_none}
use Rattle.qasm_read.proofs.expressions.reduce.Goals as goal

pub loop-frame-preserved : goal.loop-frame-preserved
loop-frame-preserved c =
    let e = reduced_some c.args.strength c.loop-frame.frames c.pop_holding.new.self c.in-Some.frame c.loop-frame.tree c.in-Some.ensures in
    cc (e, c.in_ok-tree.ensures)

pub returns : goal.returns
returns c = sym (reduced_none c.args.strength c.loop-frame.frames c.pop_holding.new.self c.loop-frame.tree c.in_default.ensures) ∙ c.loop-frame.invariant
