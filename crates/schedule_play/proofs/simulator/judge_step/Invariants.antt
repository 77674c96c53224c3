use Rattle.std.proofs.Common.{◌≡◌, length, take}
use Rattle.schedule_play.specs.Judging.{before_of}
use Rattle.schedule_play.specs.Progress.{IsStateBefore, StepIsWell}
use Rattle.schedule_play.proofs.simulator.judge_step.Given as goal

-- all is well with the first actions, and what is kept speaks of them
abbrev pub invariant-loop-action : goal.invariant-loop-action
invariant-loop-action l = record {
  count : length l.footprints.items ≡ l.action-index;
  state : IsStateBefore l.setting (before_of l.past (take l.action-index l.step)) l.config.lists l.progress.earlier.items l.progress.done.items l.footprints.items;
  well : StepIsWell l.setting l.past (take l.action-index l.step);
  earlier : l.progress.earlier ≡ l.fn.progress.earlier;
  ready : l.progress.ready ≡ l.fn.progress.ready;
}
