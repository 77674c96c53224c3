use Rattle.std.proofs.Common.{◌≡◌, take}
use Rattle.std.specs.Prelude.{fold}
use Rattle.step_rules.specs.Steps.{after_step}
use Rattle.step_rules.specs.Config.{IsConfigOf}
use Rattle.schedule_play.specs.Progress.{marked}
use Rattle.schedule_play.proofs.simulator.take_step.Given as goal

-- the first actions were applied
abbrev pub invariant-loop-action : goal.invariant-loop-action
invariant-loop-action l = record {
  lists : l.config.lists ≡ after_step l.trap l.fn.config.lists (take l.action-index l.step);
  config : IsConfigOf l.trap l.config;
  earlier : l.progress.earlier.items ≡ fold marked l.fn.progress.earlier.items (take l.action-index l.step);
  done : l.progress.done ≡ l.fn.progress.done;
  ready : l.progress.ready ≡ l.fn.progress.ready;
}
