use Rattle.at_most.proofs.Emitted.{on_err}
use Rattle.step_vars.specs.Encoding.{bounds_of}
use Rattle.clause_families.proofs.NextBound.{bound_within}
use Rattle.clause_families.proofs.emit.push_bounds.Goals as goal

pub returns-in_err-next-clause-err : goal.returns-in_err-next-clause-err
returns-in_err-next-clause-err c =
    let v = c.args.vars.now in
    on_err c.from_residual.result _
    (bound_within v.numbering v.encoding c.args.bounds.now c.loop-it.it-index c.loop-it.next c.it-item.result c.args.out.now c.loop-it.out c.push_bound.new.out
    (bounds_of v.numbering v.encoding c.args.first c.args.bounds.now) c.loop-it-test.true c.it-item.is c.loop-it.invariant.emitted c.in_err-next.ensures.err)
