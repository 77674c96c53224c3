use Rattle.step_models.proofs.Parts.{schedules_fit}
use Rattle.step_models.proofs.laws.every_schedule_fits.Goals as goal

pub returns : goal.returns
returns c = λ setting encoding t is small.
    schedules_fit (record {
      pairwise = c.encodings_limit.ensures.pairwise;
      sequential = c.encodings_limit.ensures.sequential;
      totalizer = c.encodings_limit.ensures.totalizer;
    }) setting encoding t is small (c.schedules_have_facts.ensures.facts setting t is) (c.schedules_have_facts.ensures.uses setting)
