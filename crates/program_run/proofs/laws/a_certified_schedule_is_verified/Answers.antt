use Rattle.program_run.proofs.Least.{certified_verified}
use Rattle.program_run.proofs.laws.a_certified_schedule_is_verified.Goals as goal

pub returns : goal.returns
returns c = certified_verified c.small_schedules_have_short_texts.ensures
