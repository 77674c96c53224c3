use Rattle.step_models.proofs.Room.{variables_fit}
use Rattle.step_models.proofs.Few.{clauses_fit}
use Rattle.step_models.proofs.laws.parts_are_small.Goals as goal

pub returns : goal.returns
returns c = λ setting encoding t is small.
    record {
      vars = variables_fit setting encoding t is.trap small;
      clauses = clauses_fit setting encoding t is.trap small;
    }
