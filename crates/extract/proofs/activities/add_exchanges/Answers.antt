use Rattle.extract.specs.Reading.{exchanges_in}
use Rattle.extract.proofs.Listed.{next_zone}
use Rattle.extract.proofs.activities.add_exchanges.Goals as goal

pub loop-zone-preserved : goal.loop-zone-preserved
loop-zone-preserved c =
    next_zone (exchanges_in c.args.pairs.now) _ _ _ c.loop-zone.zone c.args.zones
    c.loop-zone-test.true c.loop-zone.invariant c.in_ok-add_exchanges_in.ensures
