use Rattle.schedule_report.proofs.Exact.{kinds_sum}
use Rattle.schedule_report.proofs.laws.kinds_make_up_the_actions.Goals as goal

pub returns : goal.returns
returns c = kinds_sum
