use Rattle.placement.specs.FirstUse.{uses_of}
use Rattle.placement.proofs.Earlier.{earlier}
use Rattle.placement.proofs.laws.earlier_uses_come_first.Goals as goal

pub returns : goal.returns
returns c circuit first second = earlier (uses_of circuit) first second
