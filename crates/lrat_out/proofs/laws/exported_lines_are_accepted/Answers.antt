use Rattle.lrat_out.proofs.Exported.{all_accepted, have_empty}
use Rattle.lrat_out.proofs.laws.exported_lines_are_accepted.Goals as goal

pub returns : goal.returns
returns c = λ log goal last vars sound line refutes fits only. (all_accepted log goal last vars sound line refutes fits only, have_empty log last line)
