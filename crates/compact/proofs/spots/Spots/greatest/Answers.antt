use Rattle.std.proofs.Common.{◌≡◌, max, subst, ap, ◌∙◌, arith}
use Rattle.std.specs.Prelude.{Contains, slice_index}
use Rattle.step_rules.specs.Footprint.{spots as spots_of}
use Rattle.compact.specs.Levels.{IsGreatest, SpotsValue, spot_level}
use Rattle.compact.proofs.SpotLevels.{greatest_footprint}
use Rattle.compact.proofs.spots.Spots.greatest.Goals as goal

pub returns : goal.returns
returns c =
    let first : c.of-first.result ≡ slice_index c.args.self.now.places c.args.works.now.first.0 = c.of-first.ensures ∙ ap (λ (v : SpotsValue). slice_index v.places c.args.works.now.first.0) c.self.view_is in
    let all : max (max c.of-first.result c.of_place-second.result) c.of_junction-junction.result ≡ c.max-2.result = omega arith in
    subst (IsGreatest (Contains (spots_of c.args.works.now)) (spot_level c.args.self.now)) all
    (greatest_footprint c.args.self.now c.args.works.now c.of-first.result c.of_place-second.result c.of_junction-junction.result first c.of_place-second.ensures c.of_junction-junction.ensures)
