use Rattle.std.proofs.Common.{ap, ◌++◌, ◌∙◌, ◌-◌, arith}
use Rattle.at_most.proofs.Emitted.{on_ok_also, on_err_also}
use Rattle.step_rules.specs.Setting.{setting_of}
use Rattle.step_clauses.proofs.Prefixes.{prefix_same, layer_first, layer_later}
use Rattle.step_clauses.proofs.parts.layer.Goals as goal

pub returns-then-t-eq0-clause-ok : goal.returns-then-t-eq0-clause-ok
returns-then-t-eq0-clause-ok c =
    let s = setting_of c.args.trap.now c.args.circuit.now c.args.placement.now in
    on_ok_also c.push_start.result _ _ (λ e. e ∙ ap (λ xs. c.args.out.now ++ xs) (layer_first c.args.vars.now s c.args.t c.requires.vars c.if-t-eq0.true)) c.push_start.ensures.ok

pub returns-then-t-eq0-clause-err : goal.returns-then-t-eq0-clause-err
returns-then-t-eq0-clause-err c =
    let s = setting_of c.args.trap.now c.args.circuit.now c.args.placement.now in
    on_err_also c.push_start.result _ _ (prefix_same _ _ _ _ (layer_first c.args.vars.now s c.args.t c.requires.vars c.if-t-eq0.true)) c.push_start.ensures.err

pub returns-clause-ok : goal.returns-clause-ok
returns-clause-ok c =
    let s = setting_of c.args.trap.now c.args.circuit.now c.args.placement.now in
    on_ok_also c.push_step.result _ _ (λ e. e ∙ ap (λ xs. c.args.out.now ++ xs) (layer_later c.args.vars.now s (c.args.t - 1) c.args.t c.requires.vars (omega arith))) c.push_step.ensures.ok

pub returns-clause-err : goal.returns-clause-err
returns-clause-err c =
    let s = setting_of c.args.trap.now c.args.circuit.now c.args.placement.now in
    on_err_also c.push_step.result _ _ (prefix_same _ _ _ _ (layer_later c.args.vars.now s (c.args.t - 1) c.args.t c.requires.vars (omega arith))) c.push_step.ensures.err
