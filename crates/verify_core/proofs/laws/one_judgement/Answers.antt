use Rattle.verify_core.proofs.Judging.{judged_once}
use Rattle.verify_core.proofs.laws.one_judgement.Goals as goal

pub returns : goal.returns
returns c = judged_once c.one_verdict.ensures.one c.one_verdict.ensures.not_both
