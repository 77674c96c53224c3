use Rattle.std.proofs.Common.{ap, ◌∙◌}
use Rattle.step_rules.specs.Setting.{SettingValue}
use Rattle.schedule_text.specs.Text.{schedule_text}
use Rattle.run_stages.proofs.compile.text_of.Goals as goal

pub returns : goal.returns
returns c = c.from_vec.ensures ∙ c.in_ok-text.ensures ∙ ap (λ (it : SettingValue). schedule_text it c.args.schedule.now) c.setting.view_is
