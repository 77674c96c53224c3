-- A footprint as the list of its spots.
use Rattle.std.specs.Prelude.{◌==◌, Bool, false, List, [], ◌∷◌, ◌++◌, Option}
use Rattle.std.specs.List.{list_any}
use Rattle.std.specs.Option.{option_map_or}
use Rattle.qc_base.specs.declared.ids.PlaceId.{PlaceId}
use Rattle.qc_base.specs.declared.ids.JunctionId.{JunctionId}
use Rattle.step_rules.specs.declared.spots.Footprint.{Footprint}
use Rattle.step_rules.specs.Steps.{Spot, place, junction}

-- the spot of a place, where there is one
abbrev pub place_spots : Option PlaceId → List Spot
place_spots second = option_map_or (λ (other : PlaceId). place other.0 ∷ []) second []

abbrev pub junction_spots : Option JunctionId → List Spot
junction_spots crossed = option_map_or (λ (other : JunctionId). junction other.0 ∷ []) crossed []

-- its places, and then its junction
abbrev pub spots : Footprint → List Spot
spots footprint = place footprint.first.0 ∷ (place_spots footprint.second ++ junction_spots footprint.junction)

abbrev pub same_spot : Spot → Spot → Bool
same_spot (place p) (place q) = q == p
same_spot (place p) (junction q) = false
same_spot (junction p) (place q) = false
same_spot (junction p) (junction q) = q == p

-- the spot is one of these
abbrev pub is_worked_on : List Spot → Spot → Bool
is_worked_on others spot = list_any (same_spot spot) others
