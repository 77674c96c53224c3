use Rattle.std.proofs.Common.{◌≡◌, take}
use Rattle.std.specs.Prelude.{fold}
use Rattle.schedule_play.specs.Ready.{noted}
use Rattle.schedule_play.proofs.ready.note_step.Given as goal

-- the first actions are noted
abbrev pub invariant-loop-action : goal.invariant-loop-action
invariant-loop-action l = l.firsts.items ≡ fold (noted l.number) l.fn.firsts.items (take l.action-index l.actions)
