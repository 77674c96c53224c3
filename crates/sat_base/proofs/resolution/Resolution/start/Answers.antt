use Rattle.sat_base.proofs.Sets.{started}
use Rattle.sat_base.proofs.resolution.Resolution.start.Goals as goal

pub returns-clause-begins : goal.returns-clause-begins
returns-clause-begins c = started c.add_all.result c.args.first.now c.clear.new.self c.add_all.new.self c.clear-2.new.self c.clear.ensures c.clear-2.ensures c.add_all.ensures
