use Rattle.derivation_check.proofs.OneHead.{one_head}
use Rattle.derivation_check.proofs.laws.one_head.Goals as goal

pub returns : goal.returns
returns c = one_head
