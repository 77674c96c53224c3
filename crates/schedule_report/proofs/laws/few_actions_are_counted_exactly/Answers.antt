use Rattle.schedule_report.proofs.Exact.{counted_exactly}
use Rattle.schedule_report.proofs.laws.few_actions_are_counted_exactly.Goals as goal

pub returns : goal.returns
returns c = counted_exactly
