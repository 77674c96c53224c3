use Rattle.std.proofs.Common.{subst, ap}
use Rattle.std.specs.Prelude.{Contains}
use Rattle.step_rules.specs.Footprint.{spots as spots_of}
use Rattle.compact.specs.Levels.{AreRaised, spot_level}
use Rattle.compact.specs.Clock.{ClockValue}
use Rattle.compact.proofs.clock.Clock.hold.Goals as goal

pub returns-clause-spots : goal.returns-clause-spots
returns-clause-spots c = subst (λ (v : ClockValue). AreRaised (Contains (spots_of c.args.works.now)) (spot_level v.spots) (spot_level c.raise.new.self) c.args.level) c.self.view_is c.in_ok-raise.ensures

pub returns-clause-orders : goal.returns-clause-orders
returns-clause-orders c = ap (λ (v : ClockValue). v.orders) c.self.view_is
