use Rattle.std.proofs.Common.{◌≡◌, ap}
use Rattle.step_rules.specs.Setting.{setting_of}
use Rattle.step_vars.specs.declared.encoding.Encoding.TheVariants.{Counter}
use Rattle.step_vars.proofs.OfSetting.{as_made, encoding_is}
use Rattle.exact_search.specs.Searching.{TaskValue}
use Rattle.exact_search.proofs.Tasks.{is_part}
use Rattle.exact_search.proofs.task.Task.part.Goals as goal

pub layer-requires-clause-vars : goal.layer-requires-clause-vars
layer-requires-clause-vars c = as_made (setting_of c.self.inside.trap.now c.self.inside.circuit.now c.self.inside.placement.now) Counter c.self.inside.vars.steps c.self.inside.vars c.self.invariant.vars

pub goal-requires-clause-vars : goal.goal-requires-clause-vars
goal-requires-clause-vars c = as_made (setting_of c.self.inside.trap.now c.self.inside.circuit.now c.self.inside.placement.now) Counter c.self.inside.vars.steps c.self.inside.vars c.self.invariant.vars

pub returns : goal.returns
returns c =
    let setting = setting_of c.self.inside.trap.now c.self.inside.circuit.now c.self.inside.placement.now in
    let same : setting ≡ c.args.self.now.setting = ap (λ (it : TaskValue). it.setting) c.self.view_is in
    let made = c.self.invariant.vars in
    is_part c.args.self.now setting c.self.inside.vars.encoding c.args.bound c.new-part.result c.layer.new.out c.goal.new.out c.new-part.ensures c.in_ok-layer.ensures.ok c.in_ok-goal.ensures.ok (encoding_is setting Counter c.self.inside.vars.steps c.self.inside.vars made) same
