use Rattle.std.proofs.Common.{ap}
use Rattle.step_rules.specs.Setting.{SettingValue}
use Rattle.extract.proofs.Steps.{carried}
use Rattle.extract.proofs.schedule.perform.Goals as goal

pub apply-requires-clause-passes : goal.apply-requires-clause-passes
apply-requires-clause-passes c =
    carried c.args.setting.now _ c.args.config.now.lists c.loop-action.config.lists c.args.actions.now
    c.loop-action.action-index _ (ap (λ (s : SettingValue). s.trap) c.setting.view_is) c.requires.legal
    c.loop-action-test.true c.loop-action.invariant.lists
