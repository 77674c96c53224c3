use Rattle.schedule_report.proofs.Exact.{most_bounds}
use Rattle.schedule_report.proofs.laws.no_step_performs_more.Goals as goal

pub returns : goal.returns
returns c = most_bounds
