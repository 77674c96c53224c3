use Rattle.std.proofs.Common.{◌≡◌, refl, ap, arith}
use Rattle.sat_base.specs.Valuation.{valuation_of}
use Rattle.step_rules.specs.Setting.{setting_of}
use Rattle.step_vars.specs.declared.encoding.Encoding.TheVariants.{Counter}
use Rattle.step_vars.proofs.OfSetting.{as_made}
use Rattle.exact_search.specs.Searching.{TaskValue}
use Rattle.exact_search.proofs.Tasks.{task_vars, same_model, same_schedule}
use Rattle.exact_search.proofs.task.Task.schedule.Goals as goal

pub schedule_of-requires-clause-vars : goal.schedule_of-requires-clause-vars
schedule_of-requires-clause-vars c = as_made (setting_of c.self.inside.trap.now c.self.inside.circuit.now c.self.inside.placement.now) Counter c.self.inside.vars.steps c.self.inside.vars c.self.invariant.vars

pub schedule_of-requires-clause-values : goal.schedule_of-requires-clause-values
schedule_of-requires-clause-values c =
    let setting = setting_of c.self.inside.trap.now c.self.inside.circuit.now c.self.inside.placement.now in
    let same : setting ≡ c.args.self.now.setting = ap (λ (it : TaskValue). it.setting) c.self.view_is in
    let count = task_vars c.args.self.now setting c.self.inside.vars c.args.bound _ same c.self.invariant.vars refl in
    let enough = c.requires.values in
    omega (arith, count, enough)

pub schedule_of-requires-clause-model : goal.schedule_of-requires-clause-model
schedule_of-requires-clause-model c =
    let setting = setting_of c.self.inside.trap.now c.self.inside.circuit.now c.self.inside.placement.now in
    let same : setting ≡ c.args.self.now.setting = ap (λ (it : TaskValue). it.setting) c.self.view_is in
    same_model c.args.self.now setting c.self.inside.vars c.args.bound (valuation_of c.args.values.now) same c.self.invariant.vars c.requires.model

pub returns : goal.returns
returns c =
    let setting = setting_of c.self.inside.trap.now c.self.inside.circuit.now c.self.inside.placement.now in
    let same : setting ≡ c.args.self.now.setting = ap (λ (it : TaskValue). it.setting) c.self.view_is in
    same_schedule c.args.self.now setting c.self.inside.vars c.args.bound (valuation_of c.args.values.now) c.schedule_of.result same c.self.invariant.vars c.schedule_of.ensures.plays
