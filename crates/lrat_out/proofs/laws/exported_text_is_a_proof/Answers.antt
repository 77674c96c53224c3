use Rattle.lrat_out.specs.Faults.{task_of}
use Rattle.lrat_out.specs.Export.{with_goal, proof_lines}
use Rattle.lrat_out.proofs.Exported.{all_accepted, have_empty}
use Rattle.lrat_out.proofs.OneReading.{one_answer}
use Rattle.lrat_out.proofs.laws.exported_text_is_a_proof.Goals as goal

pub returns : goal.returns
returns c = λ log goal last vars answer sound line refutes fits few only said.
    one_answer (task_of (with_goal log goal) vars) (proof_lines log last) answer few (all_accepted log goal last vars sound line refutes fits only) (have_empty log last line) said
