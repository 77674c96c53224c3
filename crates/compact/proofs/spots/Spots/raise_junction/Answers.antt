use Rattle.std.proofs.Common.{subst, refl, sym}
use Rattle.std.specs.Prelude.{Contains, ◌∷◌, [], Option}
use Rattle.qc_base.specs.declared.ids.JunctionId.{JunctionId}
use Rattle.step_rules.specs.Footprint.{junction_spots}
use Rattle.step_rules.specs.Steps.{junction}
use Rattle.compact.specs.Levels.{AreRaised, SpotsValue, spot_level}
use Rattle.compact.proofs.SpotLevels.{junction_raised}
use Rattle.compact.proofs.spots.Spots.raise_junction.Goals as goal

pub returns : goal.returns
returns c =
    let old : SpotsValue = record { places = c.self.inside.places; junctions = c.self.inside.junctions } in
    let new : SpotsValue = record { places = c.self.inside.places; junctions = c.raise.new.self } in
    subst (λ (o : Option JunctionId). AreRaised (Contains (junction_spots o)) (spot_level c.args.self.now) (spot_level new) c.args.level) (sym c.in-Some.is)
    (subst (λ (v : SpotsValue). AreRaised (Contains (junction c.in-Some.junction.0 ∷ [])) (spot_level v) (spot_level new) c.args.level) c.self.view_is
    (junction_raised old new c.in-Some.junction.0 c.args.level c.in_ok-raise.ensures refl))
