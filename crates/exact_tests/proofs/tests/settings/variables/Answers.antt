use Rattle.std.proofs.Common.{◌≡◌, ap, ◌∙◌}
use Rattle.step_rules.specs.Setting.{SettingValue}
use Rattle.step_vars.specs.Encoding.{vars_of}
use Rattle.step_vars.proofs.OfSetting.{as_made, steps_are}
use Rattle.exact_tests.proofs.tests.settings.variables.Goals as goal

pub returns-clause-vars : goal.returns-clause-vars
returns-clause-vars g c =
    let setting : SettingValue = c.args.setting.now in
    let made : c.in_ok-vars.vars ≡ vars_of setting c.args.encoding c.args.last =
    c.in_ok-vars.ensures ∙ ap (λ (s : SettingValue). vars_of s c.args.encoding c.args.last) c.setting.view_is in
    as_made setting c.args.encoding c.args.last c.in_ok-vars.vars made

pub returns-clause-steps : goal.returns-clause-steps
returns-clause-steps g c =
    let setting : SettingValue = c.args.setting.now in
    let made : c.in_ok-vars.vars ≡ vars_of setting c.args.encoding c.args.last =
    c.in_ok-vars.ensures ∙ ap (λ (s : SettingValue). vars_of s c.args.encoding c.args.last) c.setting.view_is in
    steps_are setting c.args.encoding c.args.last c.in_ok-vars.vars made
