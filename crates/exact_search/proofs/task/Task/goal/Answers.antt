use Rattle.std.proofs.Common.{◌≡◌, sym, ap, subst, ◌∙◌}
use Rattle.std.specs.Option.{IsSome}
use Rattle.sat_base.specs.Literal.{Literal}
use Rattle.step_rules.specs.Setting.{setting_of}
use Rattle.step_vars.specs.declared.item.Claim.{Claim}
use Rattle.step_vars.specs.Numbering.{number_of}
use Rattle.step_vars.proofs.OfSetting.{goal_there}
use Rattle.exact_search.specs.Searching.{TaskValue}
use Rattle.exact_search.proofs.Tasks.{task_goal, goal_is_last}
use Rattle.exact_search.proofs.task.Task.goal.Goals as goal

pub lit-requires-clause-there : goal.lit-requires-clause-there
lit-requires-clause-there c =
    subst (λ (claim : Claim). IsSome (number_of c.self.inside.vars.numbering claim.item)) (sym c.so.ensures) (goal_there c.self.inside.vars.numbering c.args.bound)

pub returns-clause-goal : goal.returns-clause-goal
returns-clause-goal c =
    let setting = setting_of c.self.inside.trap.now c.self.inside.circuit.now c.self.inside.placement.now in
    let same : setting ≡ c.args.self.now.setting = ap (λ (it : TaskValue). it.setting) c.self.view_is in
    task_goal c.args.self.now setting c.self.inside.vars c.args.bound c.so.result c.lit.result same c.self.invariant.vars c.so.ensures c.lit.ensures

pub returns-clause-last : goal.returns-clause-last
returns-clause-last c =
    let setting = setting_of c.self.inside.trap.now c.self.inside.circuit.now c.self.inside.placement.now in
    let same : setting ≡ c.args.self.now.setting = ap (λ (it : TaskValue). it.setting) c.self.view_is in
    let e = task_goal c.args.self.now setting c.self.inside.vars c.args.bound c.so.result c.lit.result same c.self.invariant.vars c.so.ensures c.lit.ensures in
    ap (λ (literal : Literal). literal.var) e ∙ goal_is_last c.args.self.now c.args.bound
