use Rattle.lrat_out.proofs.Accepting.{no_model}
use Rattle.lrat_out.proofs.laws.a_proof_leaves_no_model.Goals as goal

pub returns : goal.returns
returns c = no_model
