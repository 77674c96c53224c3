use Rattle.std.proofs.Common.{subst, refl, sym}
use Rattle.std.specs.Prelude.{Contains, ◌∷◌, [], Option}
use Rattle.qc_base.specs.declared.ids.PlaceId.{PlaceId}
use Rattle.step_rules.specs.Footprint.{place_spots}
use Rattle.step_rules.specs.Steps.{place}
use Rattle.compact.specs.Levels.{AreRaised, SpotsValue, spot_level}
use Rattle.compact.proofs.SpotLevels.{place_raised}
use Rattle.compact.proofs.spots.Spots.raise_place.Goals as goal

pub returns : goal.returns
returns c =
    let old : SpotsValue = record { places = c.self.inside.places; junctions = c.self.inside.junctions } in
    let new : SpotsValue = record { places = c.raise.new.self; junctions = c.self.inside.junctions } in
    subst (λ (o : Option PlaceId). AreRaised (Contains (place_spots o)) (spot_level c.args.self.now) (spot_level new) c.args.level) (sym c.in-Some.is)
    (subst (λ (v : SpotsValue). AreRaised (Contains (place c.in-Some.place.0 ∷ [])) (spot_level v) (spot_level new) c.args.level) c.self.view_is
    (place_raised old new c.in-Some.place.0 c.args.level c.in_ok-raise.ensures refl))
