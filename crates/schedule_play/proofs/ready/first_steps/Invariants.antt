use Rattle.std.proofs.Common.{◌≡◌, length}
use Rattle.schedule_play.specs.Ready.{AreDoneAfter}
use Rattle.schedule_play.proofs.ready.first_steps.Given as goal

-- the numbers of the first steps are right
abbrev pub invariant-loop-time : goal.invariant-loop-time
invariant-loop-time l = record {
  len : length l.firsts.items ≡ length l.circuit.ops;
  done : AreDoneAfter l.steps l.firsts.items;
}
