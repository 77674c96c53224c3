use Rattle.derivation_check.proofs.OneAnswer.{one_answer}
use Rattle.derivation_check.proofs.laws.one_answer.Goals as goal

pub returns : goal.returns
returns c = one_answer
