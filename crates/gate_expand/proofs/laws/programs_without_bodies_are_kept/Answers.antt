use Rattle.gate_expand.proofs.Owns.{own_operations}
use Rattle.gate_expand.proofs.laws.programs_without_bodies_are_kept.Goals as goal

pub returns : goal.returns
returns c = own_operations
