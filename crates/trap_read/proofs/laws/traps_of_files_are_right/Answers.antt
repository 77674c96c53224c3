use Rattle.trap_read.proofs.Sound.{right_trap}
use Rattle.trap_read.proofs.laws.traps_of_files_are_right.Goals as goal

pub returns : goal.returns
returns c = right_trap
