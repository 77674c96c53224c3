use Rattle.std.proofs.Common.{length}
use Rattle.schedule_text.proofs.Bodies.{Read}
use Rattle.schedule_text.proofs.reader.read_body.Given as goal

abbrev pub invariant-loop-schedule : goal.invariant-loop-schedule
invariant-loop-schedule l = Read l.setting.trap l.setting.circuit l.setting.placement l.count l.schedule l.rest l.bytes

abbrev pub decreases-loop-schedule : goal.decreases-loop-schedule
decreases-loop-schedule l = length l.rest
