-- Every zone leads to every other.
use Rattle.std.proofs.Common.{◌≡◌, ◌≢◌, ℕ, zero, suc, ◌+◌, ◌<◌, List, [], ◌∷◌, length, Some, None, refl, ap, subst, ◌∙◌, arith}
use Rattle.std.specs.Prelude.{Option, slice_get, IsSome}
use Rattle.trap_parts.specs.Parts.{TrapValue}
use Rattle.route_find.specs.Walks.{IsWalk, IsReachable, IsDistance}
use Rattle.route_find.specs.Distances.{DistancesValue, AreDistances, distance_at, next_at}
use Rattle.route_find.proofs.Back.{reached_back, reached_through}
use Rattle.greedy_router.specs.Routing.{MapValue, IsMap}

-- a walk leads from each zone to each other, through zone 0
pub zones_joined : (map : MapValue) (from to : ℕ) → IsMap map → from < length map.setting.trap.zones → to < length map.setting.trap.zones → IsReachable map.setting.trap from to
zones_joined map from to is in_from in_to = reached_through map.setting.trap from 0 to (reached_back map.setting.trap 0 from (is.room.reached from in_from)) (is.room.reached to in_to)

some_distance : (trap : TrapValue) (from to : ℕ) (distance : Option ℕ) → IsDistance trap from to distance → IsReachable trap from to → IsSome distance
some_distance trap from to None none walk = absurd (none walk)
some_distance trap from to (Some distance) is walk = refl

no_steps : (trap : TrapValue) (from to : ℕ) (walk : List ℕ) → IsWalk trap from to walk → length walk ≡ 0 → from ≡ to
no_steps trap from to [] leads len = leads
no_steps trap from to (number ∷ rest) leads len = absurd (omega arith)

begins : (trap : TrapValue) (distances : DistancesValue) (from to : ℕ) (distance : Option ℕ) → distance_at distances from ≡ distance → IsDistance trap from to distance → IsReachable trap from to → from ≢ to
    → AreDistances trap distances → IsSome (next_at distances from)
begins trap distances from to None e none walk apart are = absurd (none walk)
begins trap distances from to (Some zero) e is walk apart are = absurd (apart (no_steps trap from to is.0 is.1.0.leads is.1.1))
begins trap distances from to (Some (suc distance)) e is walk apart are =
    let more : suc distance ≡ distance + 1 = omega arith in
    are.next from distance (e ∙ ap (λ (n : ℕ). Some n) more)

pub distance_known : (map : MapValue) (distances : DistancesValue) (from to : ℕ) → IsMap map → from < length map.setting.trap.zones → to < length map.setting.trap.zones
    → slice_get map.zone_distances to ≡ Some distances → IsSome (distance_at distances from)
distance_known map distances from to is in_from in_to there =
    let are = is.zone_distances.each to distances there in
    some_distance map.setting.trap from to (distance_at distances from) (subst (λ (target : ℕ). IsDistance map.setting.trap from target (distance_at distances from)) are.1 (are.0.each from))
    (zones_joined map from to is in_from in_to)

-- a zone that isn't the target has a first channel
pub route_begins : (map : MapValue) (distances : DistancesValue) (from to : ℕ) → IsMap map → from < length map.setting.trap.zones → to < length map.setting.trap.zones → from ≢ to
    → slice_get map.zone_distances to ≡ Some distances → IsSome (next_at distances from)
route_begins map distances from to is in_from in_to apart there =
    let are = is.zone_distances.each to distances there in
    begins map.setting.trap distances from to (distance_at distances from) refl
    (subst (λ (target : ℕ). IsDistance map.setting.trap from target (distance_at distances from)) are.1 (are.0.each from)) (zones_joined map from to is in_from in_to) apart are.0
