use Rattle.std.proofs.Common.{[], take}
use Rattle.step_rules.specs.Setting.{setting_of}
use Rattle.step_rules.specs.Config.{IsConfigOf}
use Rattle.schedule_play.specs.Judging.{before_of}
use Rattle.schedule_play.specs.Progress.{IsStateBefore}
use Rattle.schedule_play.specs.Ready.{IsReadyThroughout}
use Rattle.schedule_play.proofs.simulator.play.Given as goal

-- all is well with the first steps, and what is kept speaks of them
abbrev pub invariant-loop-time : goal.invariant-loop-time
invariant-loop-time l = record {
  state : IsStateBefore (setting_of l.trap l.circuit l.placement) (before_of (take l.time l.schedule) []) l.config.lists l.progress.earlier.items l.progress.done.items [];
  config : IsConfigOf l.trap l.config;
  ready : IsReadyThroughout l.circuit l.schedule l.progress.ready.items;
}
