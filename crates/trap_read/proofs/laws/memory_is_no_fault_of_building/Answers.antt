use Rattle.trap_read.proofs.Answered.{memory_apart}
use Rattle.trap_read.proofs.laws.memory_is_no_fault_of_building.Goals as goal

pub returns : goal.returns
returns c = memory_apart
