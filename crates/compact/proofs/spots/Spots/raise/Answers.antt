use Rattle.compact.proofs.SpotLevels.{footprint_raised}
use Rattle.compact.proofs.spots.Spots.raise.Goals as goal

pub returns : goal.returns
returns c =
    footprint_raised c.args.works.now c.args.self.now c.raise_place.new.self c.raise_place-2.new.self c.raise_junction.new.self c.args.level c.in_ok-raise_place.ensures c.in_ok-raise_place-2.ensures c.in_ok-raise_junction.ensures
