-- Working notions of the search for distances, by private functions.
use Rattle.std.specs.Prelude.{◌≡◌, ℕ, ◌+◌, ◌<◌, ◌≤◌, Bool, true, List, length, slice_get, slice_index, Option, Some, None, is_none, is_some, count_by, Contains, All}
use Rattle.std.specs.Option.{option_map_or}
use Rattle.trap_model.specs.declared.channel.Channel.{Channel}
use Rattle.route_find.specs.declared.reach.Reach.{Reach}
use Rattle.route_find.specs.Distances.{reach_in}

-- both places of each channel are below that number
abbrev pub AreBelow : ℕ → List Channel → Type 0
AreBelow places channels = All (λ (c : Channel). (c.from.0 < places) × (c.to.0 < places)) channels

-- the channel of this number ends at the place
pub record Ends (channels : List Channel) (place number : ℕ) : Type 0 where
  pub channel : Channel
  pub there : slice_get channels number ≡ Some channel
  pub ends : channel.to.0 ≡ place

-- for each place the numbers of those of the first channels that end there
pub record AreEnds (channels : List Channel) (places count : ℕ) (ends : List (List ℕ)) : Type 0 where
  pub len : length ends ≡ places
  pub sound : (place number : ℕ) (row : List ℕ) → slice_get ends place ≡ Some row → Contains row number
      → Ends channels place number
  pub all : (place number : ℕ) (row : List ℕ) → slice_get ends place ≡ Some row → number < count
      → Ends channels place number → Contains row number

-- the place is reached
abbrev pub is_reached : List (Option Reach) → ℕ → Bool
is_reached rows place = is_some (reach_in rows place)

-- its distance so far
abbrev pub distance_of : List (Option Reach) → ℕ → ℕ
distance_of rows place = option_map_or (λ reach. reach.distance) (reach_in rows place) 0

-- how many places aren't reached
abbrev pub missing : List (Option Reach) → ℕ
missing rows = count_by (λ (row : Option Reach). is_none row) rows

-- the place is reached, in at most so many channels
pub record IsWithin (rows : List (Option Reach)) (place most : ℕ) : Type 0 where
  pub reached : is_reached rows place ≡ true
  pub near : distance_of rows place ≤ most

-- the channel of this number leads from the place to a reached one that is one channel nearer
pub record Follows (channels : List Channel) (rows : List (Option Reach))
    (place number distance : ℕ) : Type 0 where
  pub channel : Channel
  pub there : slice_get channels number ≡ Some channel
  pub starts : channel.from.0 ≡ place
  pub reached : is_reached rows channel.to.0 ≡ true
  pub farther : distance ≡ distance_of rows channel.to.0 + 1

-- the target, or a place with a channel that leads nearer
abbrev pub IsSoundBy : List Channel → List (Option Reach) → ℕ → ℕ → ℕ → Option ℕ → Type 0
IsSoundBy channels rows target place distance None = (place ≡ target) × (distance ≡ 0)
IsSoundBy channels rows target place distance (Some number) = Follows channels rows place number distance

abbrev pub IsSound : List Channel → List (Option Reach) → ℕ → ℕ → Reach → Type 0
IsSound channels rows target place reach = IsSoundBy channels rows target place reach.distance reach.next

-- the queue has each reached place, the nearest first
pub record IsQueue (queue : List ℕ) (rows : List (Option Reach)) : Type 0 where
  pub queued : (place : ℕ) → is_reached rows place ≡ true → Contains queue place
  pub reached : (j : ℕ) → j < length queue → IsWithin rows (slice_index queue j) j
  pub ordered : (i j : ℕ) → i ≤ j → j < length queue
      → distance_of rows (slice_index queue i) ≤ distance_of rows (slice_index queue j)
  pub few : length queue + missing rows ≡ length rows

-- the channels that end at the place start at places that are reached in one channel more
abbrev pub IsExpanded : List Channel → List (Option Reach) → ℕ → Type 0
IsExpanded channels rows place =
    (number : ℕ) (channel : Channel) → slice_get channels number ≡ Some channel → channel.to.0 ≡ place
    → IsWithin rows channel.from.0 (distance_of rows place + 1)

-- A search from the target: so many places of the queue are expanded, and the others are at most one
-- channel farther than the next.
pub record IsSearch (channels : List Channel) (target head : ℕ) (queue : List ℕ) (rows : List
    (Option Reach)) : Type 0 where
  pub queued : IsQueue queue rows
  pub start : (is_reached rows target ≡ true) × (distance_of rows target ≡ 0)
  pub sound : (place : ℕ) (reach : Reach) → reach_in rows place ≡ Some reach
      → IsSound channels rows target place reach
  pub near : (j : ℕ) → head < length queue → j < length queue
      → distance_of rows (slice_index queue j) ≤ distance_of rows (slice_index queue head) + 1
  pub expanded : (j : ℕ) → j < head → j < length queue → IsExpanded channels rows (slice_index queue j)

-- the whole queue is expanded
abbrev pub IsFound : List Channel → ℕ → List (Option Reach) → Type 0
IsFound channels target rows = (queue : List ℕ) × IsSearch channels target (length queue) queue rows

-- the place at the head of the queue
abbrev pub first : List ℕ → ℕ
first queue = slice_index queue 0
