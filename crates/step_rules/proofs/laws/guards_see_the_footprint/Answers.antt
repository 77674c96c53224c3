use Rattle.step_rules.proofs.Carried.{same_guards, same_transport}
use Rattle.step_rules.proofs.laws.guards_see_the_footprint.Goals as goal

pub returns-clause-guards : goal.returns-clause-guards
returns-clause-guards c = same_guards

pub returns-clause-transport : goal.returns-clause-transport
returns-clause-transport c = same_transport
