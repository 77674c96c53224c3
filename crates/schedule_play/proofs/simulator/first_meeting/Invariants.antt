use Rattle.schedule_play.specs.Progress.{NoneMeets}
use Rattle.schedule_play.proofs.simulator.first_meeting.Given as goal

-- none before meets it
abbrev pub invariant-loop-place : goal.invariant-loop-place
invariant-loop-place l = NoneMeets l.footprints l.place l.works
