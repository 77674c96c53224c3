use Rattle.std.proofs.Common.{◌≡◌, ◌+◌, sym, ap, ◌∙◌, arith}
use Rattle.step_rules.specs.Setting.{SettingValue, setting_of}
use Rattle.step_vars.proofs.OfSetting.{steps_are, small_before}
use Rattle.verify_core.specs.Reading.{MinimumValue, encoding_before}
use Rattle.verify_core.proofs.Minimums.{made_for, part_more, all_parts}
use Rattle.verify_core.proofs.minimum.Minimum.formula.Goals as goal

pub layer-requires-clause-vars : goal.layer-requires-clause-vars
layer-requires-clause-vars c =
    let setting = setting_of c.self.inside.trap.now c.self.inside.circuit.now c.self.inside.placement.now in
    let same : setting ≡ c.args.self.now.setting = ap (λ (it : MinimumValue). it.setting) c.self.view_is in
    made_for c.args.self.now setting c.args.vars.now c.args.bound same c.requires.vars

pub layer-requires-clause-small : goal.layer-requires-clause-small
layer-requires-clause-small c =
    let setting = setting_of c.self.inside.trap.now c.self.inside.circuit.now c.self.inside.placement.now in
    let steps = steps_are c.args.self.now.setting c.args.vars.now.encoding c.args.bound c.args.vars.now c.requires.vars in
    let own : c.self.inside.steps ≡ c.args.self.now.steps = ap (λ (it : MinimumValue). it.steps) c.self.view_is in
    let within = c.requires.within in
    small_before setting c.self.inside.steps c.args.vars.now.steps (omega (arith, steps, own, within)) c.self.invariant.small

pub layer-requires-clause-t : goal.layer-requires-clause-t
layer-requires-clause-t c =
    let steps = steps_are c.args.self.now.setting c.args.vars.now.encoding c.args.bound c.args.vars.now c.requires.vars in
    omega (arith, steps)

pub goal-requires-clause-vars : goal.goal-requires-clause-vars
goal-requires-clause-vars c =
    let setting = setting_of c.self.inside.trap.now c.self.inside.circuit.now c.self.inside.placement.now in
    let same : setting ≡ c.args.self.now.setting = ap (λ (it : MinimumValue). it.setting) c.self.view_is in
    made_for c.args.self.now setting c.args.vars.now c.args.bound same c.requires.vars

pub goal-requires-clause-t : goal.goal-requires-clause-t
goal-requires-clause-t c =
    let steps = steps_are c.args.self.now.setting c.args.vars.now.encoding c.args.bound c.args.vars.now c.requires.vars in
    omega (arith, steps)

pub loop-t-preserved : goal.loop-t-preserved
loop-t-preserved c =
    let setting = setting_of c.self.inside.trap.now c.self.inside.circuit.now c.self.inside.placement.now in
    let same : setting ≡ c.args.self.now.setting = ap (λ (it : MinimumValue). it.setting) c.self.view_is in
    let before : c.loop-t.formula ≡ encoding_before setting c.args.vars.now.encoding c.loop-t.t =
    c.loop-t.invariant ∙ ap (λ (it : SettingValue). encoding_before it c.args.vars.now.encoding c.loop-t.t) (sym same) in
    let next = part_more setting c.args.vars.now.encoding c.loop-t.t c.loop-t.formula c.layer.new.out c.goal.new.out before c.in_ok-layer.ensures.ok c.in_ok-goal.ensures.ok in
    next ∙ ap (λ (it : SettingValue). encoding_before it c.args.vars.now.encoding (c.loop-t.t + 1)) same

pub returns : goal.returns
returns c =
    let last : c.loop-t.t ≡ c.args.bound + 1 = omega (arith, c.loop-t-test.false, c.loop-t.auto.t-end) in
    all_parts c.args.self.now.setting c.args.vars.now.encoding c.args.bound c.loop-t.t c.loop-t.formula c.loop-t.invariant last
