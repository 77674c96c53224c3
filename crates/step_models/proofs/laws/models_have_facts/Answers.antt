use Rattle.step_models.proofs.Parts.{models_have_facts}
use Rattle.step_models.proofs.laws.models_have_facts.Goals as goal

pub returns : goal.returns
returns c =
    models_have_facts (record {
      pairwise = c.encodings_limit.ensures.pairwise;
      sequential = c.encodings_limit.ensures.sequential;
      totalizer = c.encodings_limit.ensures.totalizer;
    })
