use Rattle.std.proofs.Common.{◌≡◌, ap, subst}
use Rattle.step_rules.specs.Setting.{setting_of}
use Rattle.step_vars.specs.declared.encoding.Encoding.TheVariants.{Counter}
use Rattle.step_vars.proofs.OfSetting.{small_before}
use Rattle.exact_search.specs.Searching.{TaskValue, IsTask}
use Rattle.exact_search.proofs.Tasks.{task_vars}
use Rattle.exact_search.proofs.task.Task.vars_up_to.Goals as goal

pub returns-clause-count : goal.returns-clause-count
returns-clause-count c =
    let setting = setting_of c.self.inside.trap.now c.self.inside.circuit.now c.self.inside.placement.now in
    let same : setting ≡ c.args.self.now.setting = ap (λ (it : TaskValue). it.setting) c.self.view_is in
    task_vars c.args.self.now setting c.self.inside.vars c.args.bound c.count.result same c.self.invariant.vars c.count.ensures.count

pub returns-clause-names : goal.returns-clause-names
returns-clause-names c =
    let task = c.args.self.now in
    let is : IsTask task = subst IsTask c.self.view_is c.self.invariant in
    c.parts_name_their_variables.ensures task.setting Counter c.args.bound is.sound (small_before task.setting task.vars.steps c.args.bound c.requires is.small)
