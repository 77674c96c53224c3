use Rattle.step_models.specs.Models.{facts_of}
use Rattle.step_models.proofs.laws.models_are_schedules.Goals as goal

pub returns : goal.returns
returns c = λ setting encoding t is small values model.
    c.facts_are_schedules.ensures setting t is (facts_of setting encoding values) (c.models_have_facts.ensures setting encoding t is small values model)
