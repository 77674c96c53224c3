use Rattle.step_facts.proofs.AreSchedules.{facts_are_schedules}
use Rattle.step_facts.proofs.laws.facts_are_schedules.Goals as goal

pub returns : goal.returns
returns c = facts_are_schedules
