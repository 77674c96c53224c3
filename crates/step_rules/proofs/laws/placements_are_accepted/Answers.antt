use Rattle.step_rules.proofs.Accepted.{placement_is}
use Rattle.step_rules.proofs.Placements.{is_placement}
use Rattle.step_rules.proofs.laws.placements_are_accepted.Goals as goal

pub returns-clause-accepted : goal.returns-clause-accepted
returns-clause-accepted c = placement_is

pub returns-clause-placed : goal.returns-clause-placed
returns-clause-placed c = is_placement
