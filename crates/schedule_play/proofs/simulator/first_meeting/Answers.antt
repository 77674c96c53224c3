use Rattle.std.proofs.Common.{sym, ◌∙◌}
use Rattle.schedule_play.proofs.Judged.{none_more}
use Rattle.schedule_play.proofs.simulator.first_meeting.Goals as goal

pub loop-place-preserved : goal.loop-place-preserved
loop-place-preserved c = none_more c.args.footprints.now c.loop-place.place c.args.works.now _ c.loop-place.invariant c.loop-place-test.true (sym c.meets.ensures ∙ c.if-meets.false)
