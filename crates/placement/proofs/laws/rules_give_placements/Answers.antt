use Rattle.placement.proofs.Placed.{placed}
use Rattle.placement.proofs.laws.rules_give_placements.Goals as goal

pub returns : goal.returns
returns c = placed
