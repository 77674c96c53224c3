use Rattle.verify_core.proofs.Verdicts.{verified_is_least}
use Rattle.verify_core.proofs.laws.accepted_schedules_are_least.Goals as goal

pub returns : goal.returns
returns c = λ trap circuit text bytes steps. verified_is_least trap circuit text bytes steps c.every_schedule_fits.ensures
