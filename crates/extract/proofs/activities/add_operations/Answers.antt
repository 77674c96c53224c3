use Rattle.extract.specs.Reading.{operations_in}
use Rattle.extract.proofs.Listed.{next_zone}
use Rattle.extract.proofs.activities.add_operations.Goals as goal

pub loop-zone-preserved : goal.loop-zone-preserved
loop-zone-preserved c =
    next_zone (operations_in c.args.setting.now c.args.ops.now) _ _ _ c.loop-zone.zone c.args.zones
    c.loop-zone-test.true c.loop-zone.invariant c.in_ok-add_operations_in.ensures
