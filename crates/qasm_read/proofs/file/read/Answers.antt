use Rattle.qasm_read.proofs.WellFormed.{well_formed_if_read}
use Rattle.qasm_read.proofs.file.read.Goals as goal

pub returns-in-Ok-clause-well_formed : goal.returns-in-Ok-clause-well_formed
returns-in-Ok-clause-well_formed c = well_formed_if_read c.in-Ok.tokens c.read_program.result c.in-Ok.ensures.formed c.read_program.ensures
