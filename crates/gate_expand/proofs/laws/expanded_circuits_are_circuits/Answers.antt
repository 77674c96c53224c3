use Rattle.gate_expand.proofs.SoundProgram.{circuit_is}
use Rattle.gate_expand.proofs.laws.expanded_circuits_are_circuits.Goals as goal

pub returns : goal.returns
returns c = circuit_is
