use Rattle.ion_chain.proofs.Passed.{all_stay}
use Rattle.ion_chain.proofs.laws.nothing_lost.Goals as goal

pub returns : goal.returns
returns c = all_stay
