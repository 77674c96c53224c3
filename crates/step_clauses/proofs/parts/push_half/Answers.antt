use Rattle.std.proofs.Common.{ap}
use Rattle.at_most.proofs.Emitted.{on_err}
use Rattle.step_vars.specs.Encoding.{clauses_of}
use Rattle.step_clauses.proofs.Prefixes.{prefix_first, prefix_second, prefix_same}
use Rattle.step_clauses.proofs.parts.push_half.Goals as goal

pub returns-in_err-next-clause-err : goal.returns-in_err-next-clause-err
returns-in_err-next-clause-err c = on_err c.from_residual.result _ (prefix_first _ _ _ _ c.in_err-next.ensures.err)

pub returns-in_err-push_clauses-clause-err : goal.returns-in_err-push_clauses-clause-err
returns-in_err-push_clauses-clause-err c =
    on_err c.from_residual-in_err-push_clauses.result _
    (prefix_second _ _ _ _ _ c.in_ok-next.ensures.ok (prefix_same _ _ _ _ (ap (clauses_of c.args.vars.now.numbering) c.items.ensures) c.in_err-push_clauses.ensures.err))
