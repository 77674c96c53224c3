-- Walks of channels from place to place, and the shortest of them.
use Rattle.std.specs.Prelude.{◌≡◌, ℕ, ◌≤◌, List, [], ◌∷◌, length, slice_get, Option, Some, None}
use Rattle.trap_parts.specs.Parts.{TrapValue}
use Rattle.trap_model.specs.Channels.{channels_of}
use Rattle.trap_model.specs.declared.channel.Channel.{Channel}

-- the channel of this number leads from the one place to the other
pub record Leads (trap : TrapValue) (from number to : ℕ) : Type 0 where
  pub channel : Channel
  pub there : slice_get (channels_of trap) number ≡ Some channel
  pub starts : channel.from.0 ≡ from
  pub ends : channel.to.0 ≡ to

-- a list of channels, by their numbers, from the one place to the other: each starts at the place where
-- the one before ended
abbrev pub IsWalk : TrapValue → ℕ → ℕ → List ℕ → Type 0
IsWalk trap from to [] = from ≡ to
IsWalk trap from to (number ∷ rest) = (next : ℕ) × (Leads trap from number next × IsWalk trap next to rest)

-- a walk leads from the one place to the other
abbrev pub IsReachable : TrapValue → ℕ → ℕ → Type 0
IsReachable trap from to = (walk : List ℕ) × IsWalk trap from to walk

-- a walk, and no walk between the two places has fewer channels
pub record IsShortest (trap : TrapValue) (from to : ℕ) (walk : List ℕ) : Type 0 where
  pub leads : IsWalk trap from to walk
  pub least : (other : List ℕ) → IsWalk trap from to other → length walk ≤ length other

-- a shortest walk, or none where no walk leads from the one place to the other
abbrev pub IsRoute : TrapValue → ℕ → ℕ → Option (List ℕ) → Type 0
IsRoute trap from to (Some walk) = IsShortest trap from to walk
IsRoute trap from to None = ¬ IsReachable trap from to

-- how many channels a shortest walk has, or none where there is no walk
abbrev pub IsDistance : TrapValue → ℕ → ℕ → Option ℕ → Type 0
IsDistance trap from to (Some distance) = (walk : List ℕ) × (IsShortest trap from to walk × (length walk ≡ distance))
IsDistance trap from to None = ¬ IsReachable trap from to
