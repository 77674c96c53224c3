use Rattle.std.proofs.Common.{◌≡◌, ℕ, List, sym, subst, arith}
use Rattle.std.specs.Prelude.{IfOk}
use Rattle.encoding_dimacs.specs.Dimacs.{setting_in}
use Rattle.encoding_dimacs.proofs.Vars.{vars_steps, are_vars, text_is}
use Rattle.encoding_dimacs.proofs.text.encoded.Goals as goal

pub question-requires-clause-vars : goal.question-requires-clause-vars
question-requires-clause-vars c =
    are_vars c.args.inputs.now c.in_ok-vars.vars c.args.encoding c.args.steps c.requires.inputs c.requires.steps c.in_ok-vars.ensures

pub question-requires-clause-steps : goal.question-requires-clause-steps
question-requires-clause-steps c =
    sym (vars_steps c.in_ok-vars.vars (setting_in c.args.inputs.now) c.args.encoding c.args.steps c.in_ok-vars.ensures)

pub count-requires : goal.count-requires
count-requires c =
    omega (arith, vars_steps c.in_ok-vars.vars (setting_in c.args.inputs.now) c.args.encoding c.args.steps c.in_ok-vars.ensures)

pub returns : goal.returns
returns c =
    subst (λ (said : List ℕ). IfOk c.text_of.result (λ text. text.items ≡ said))
    (text_is c.in_ok-vars.vars (setting_in c.args.inputs.now) c.args.encoding c.args.steps c.count.result c.in_ok-formula.formula c.in_ok-vars.ensures c.count.ensures.count c.in_ok-formula.ensures)
    c.text_of.ensures
