-- The distances of all places to one of them.
use Rattle.std.specs.Prelude.{◌≡◌, ℕ, ◌+◌, List, slice_get, Option, Some, IsSome}
use Rattle.std.specs.Option.{option_map, option_and_then}
use Rattle.trap_parts.specs.Parts.{TrapValue}
use Rattle.route_find.specs.declared.reach.Reach.{Reach}
use Rattle.route_find.specs.Walks.{Leads, IsDistance}

-- the place to which the distances are, and for each place what is known of it
pub record DistancesValue : Type 0 where
  pub target : ℕ
  pub rows : List (Option Reach)

-- what is known of a place, where a walk leads from it to the target
abbrev pub reach_in : List (Option Reach) → ℕ → Option Reach
reach_in rows place = option_and_then (λ (row : Option Reach). row) (slice_get rows place)

abbrev pub distance_at : DistancesValue → ℕ → Option ℕ
distance_at distances place = option_map (λ (reach : Reach). reach.distance) (reach_in distances.rows place)

abbrev pub next_at : DistancesValue → ℕ → Option ℕ
next_at distances place = option_and_then (λ (reach : Reach). reach.next) (reach_in distances.rows place)

-- the channel leads from the place to one that is nearer to the target by one channel
pub record LeadsNearer (trap : TrapValue) (distances : DistancesValue) (place number : ℕ) : Type 0 where
  pub after : ℕ
  pub distance : ℕ
  pub leads : Leads trap place number after
  pub here : distance_at distances place ≡ Some (distance + 1)
  pub there : distance_at distances after ≡ Some distance

-- The distance of each place to the target; and each place but the target that has one has a channel that
-- leads nearer.
pub record AreDistances (trap : TrapValue) (distances : DistancesValue) : Type 0 where
  pub each : (place : ℕ) → IsDistance trap place distances.target (distance_at distances place)
  pub next : (place distance : ℕ) → distance_at distances place ≡ Some (distance + 1)
      → IsSome (next_at distances place)
  pub nearer : (place number : ℕ) → next_at distances place ≡ Some number
      → LeadsNearer trap distances place number
