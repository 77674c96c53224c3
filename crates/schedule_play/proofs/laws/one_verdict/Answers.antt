use Rattle.schedule_play.proofs.Verdicts as verdicts
use Rattle.schedule_play.proofs.Deciding as deciding
use Rattle.schedule_play.proofs.laws.one_verdict.Goals as goal

pub returns-clause-one : goal.returns-clause-one
returns-clause-one c = verdicts.one_verdict

pub returns-clause-not_both : goal.returns-clause-not_both
returns-clause-not_both c = verdicts.not_both

pub returns-clause-some : goal.returns-clause-some
returns-clause-some c = deciding.judged
