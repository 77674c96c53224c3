use Rattle.program_run.proofs.OneOutcome.{prepares-one}
use Rattle.program_run.proofs.laws.one_outcome.Goals as goal

pub returns : goal.returns
returns c = prepares-one c.one_verification.ensures
