use Rattle.std.proofs.Common.{◌≡◌, take}
use Rattle.step_rules.specs.Config.{IsConfigOf}
use Rattle.step_rules.specs.Placement.{start_of}
use Rattle.step_rules.specs.Play.{AreLegal, after_steps, one_at_a_time}
use Rattle.schedule_tests.proofs.tests.tight.passes.Given as goal

-- the first actions are legal, and this is where the ions are after them
abbrev pub invariant-loop-action : goal.invariant-loop-action
invariant-loop-action l = record {
  config : IsConfigOf l.setting.trap l.config;
  lists : l.config.lists ≡ after_steps l.setting.trap (start_of l.setting.trap l.setting.placement) (one_at_a_time (take l.action-index l.actions));
  legal : AreLegal l.setting (start_of l.setting.trap l.setting.placement) (one_at_a_time (take l.action-index l.actions));
}
