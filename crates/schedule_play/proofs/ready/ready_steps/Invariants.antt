use Rattle.std.proofs.Common.{◌≡◌, length}
use Rattle.schedule_play.specs.Ready.{AreReadyAfter}
use Rattle.schedule_play.proofs.ready.ready_steps.Given as goal

-- the first operations have their numbers
abbrev pub invariant-loop-number : goal.invariant-loop-number
invariant-loop-number l = record {
  count : length l.ready.items ≡ l.number;
  after : AreReadyAfter l.circuit l.steps l.ready.items;
}
