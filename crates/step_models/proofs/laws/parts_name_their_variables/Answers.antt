use Rattle.step_models.proofs.Parts.{parts_own}
use Rattle.step_models.proofs.laws.parts_name_their_variables.Goals as goal

pub returns : goal.returns
returns c =
    parts_own (record {
      pairwise = c.encodings_limit.ensures.pairwise;
      sequential = c.encodings_limit.ensures.sequential;
      totalizer = c.encodings_limit.ensures.totalizer;
    })
