use Rattle.program_run.proofs.RoundTrip.{judged_legal, judged_reported}
use Rattle.program_run.proofs.laws.a_compiled_schedule_is_legal.Goals as goal

pub returns-clause-checked : goal.returns-clause-checked
returns-clause-checked c = judged_legal

pub returns-clause-reported : goal.returns-clause-reported
returns-clause-reported c = judged_reported
