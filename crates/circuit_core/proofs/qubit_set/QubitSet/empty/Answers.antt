use Rattle.circuit_core.proofs.Flags.{no_flags}
use Rattle.circuit_core.proofs.qubit_set.QubitSet.empty.Goals as goal

pub returns : goal.returns
returns c = no_flags
