use Rattle.derivation_check.proofs.Feeding.{faults_stay}
use Rattle.derivation_check.proofs.laws.faults_stay.Goals as goal

pub returns : goal.returns
returns c = faults_stay
