use Rattle.std.proofs.Common.{◌≡◌, take}
use Rattle.step_rules.specs.Config.{IsConfigOf}
use Rattle.step_rules.specs.Steps.{after_step}
use Rattle.extract.proofs.schedule.perform.Given as goal

-- the first actions were applied
abbrev pub invariant-loop-action : goal.invariant-loop-action
invariant-loop-action l = record {
  lists : l.config.lists ≡ after_step l.setting.trap l.fn.config.lists (take l.action-index l.actions);
  config : IsConfigOf l.setting.trap l.config;
}
