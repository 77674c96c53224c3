use Rattle.program_run.proofs.Least.{verified_least}
use Rattle.program_run.proofs.laws.a_verified_schedule_is_least.Goals as goal

pub returns : goal.returns
returns c = verified_least c.accepted_schedules_are_least.ensures
