use Rattle.std.proofs.Common.{◌<◌, length, arith}
use Rattle.lrat_out.proofs.Writing.{line_more}
use Rattle.lrat_out.proofs.proof_text.lrat.Goals as goal

pub loop-k-preserved : goal.loop-k-preserved
loop-k-preserved c =
    let within : c.loop-k.k < length c.args.log.now.derived = omega (arith, c.requires.line.within, c.loop-k-test.true) in
    line_more c.args.log.now c.loop-k.k c.loop-k.out.items c.push_derived.new.out.items within c.loop-k.invariant c.in_ok-push_derived.ensures
