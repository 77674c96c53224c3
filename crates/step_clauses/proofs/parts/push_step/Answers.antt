use Rattle.std.proofs.Common.{ap, ◌++◌, ◌∙◌}
use Rattle.at_most.proofs.Emitted.{on_ok_also, on_err, on_err_also}
use Rattle.step_clauses.proofs.Same.{then_part}
use Rattle.step_clauses.proofs.Prefixes.{prefix_first, prefix_second, prefix_same, step_is}
use Rattle.step_clauses.proofs.parts.push_step.Goals as goal

pub returns-in_err-next-clause-err : goal.returns-in_err-next-clause-err
returns-in_err-next-clause-err c =
    on_err c.from_residual.result _ (prefix_same _ _ _ _ (step_is c.args.vars.now c.args.setting.now c.args.times.before c.args.times.time) (prefix_first _ _ _ _ c.in_err-next.ensures.err))

pub returns-clause-ok : goal.returns-clause-ok
returns-clause-ok c =
    on_ok_also c.push_second_half.result _ _
    (λ e. then_part _ _ _ _ _ c.in_ok-next.ensures.ok e ∙ ap (λ xs. c.args.out.now ++ xs) (step_is c.args.vars.now c.args.setting.now c.args.times.before c.args.times.time))
    c.push_second_half.ensures.ok

pub returns-clause-err : goal.returns-clause-err
returns-clause-err c =
    on_err_also c.push_second_half.result _ _
    (λ h. prefix_same _ _ _ _ (step_is c.args.vars.now c.args.setting.now c.args.times.before c.args.times.time) (prefix_second _ _ _ _ _ c.in_ok-next.ensures.ok h))
    c.push_second_half.ensures.err
