use Rattle.std.proofs.Common.{refl}
use Rattle.circuit_core.specs.Label.{label}
use Rattle.circuit_core.proofs.CircuitLabels.{labelled_is}
use Rattle.circuit_core.proofs.laws.labels_are_found.Goals as goal

pub returns : goal.returns
returns c = λ circuit qubit is h. labelled_is circuit (label circuit qubit) qubit.0 is h refl
