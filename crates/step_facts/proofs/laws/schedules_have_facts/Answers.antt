use Rattle.step_facts.proofs.HaveFacts.{schedules_have_facts, facts_say_uses}
use Rattle.step_facts.proofs.laws.schedules_have_facts.Goals as goal

pub returns : goal.returns
returns c = record { facts = schedules_have_facts; uses = facts_say_uses }
