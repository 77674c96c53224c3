-- What a contract sees of a configuration, and when it is one of a trap.
use Rattle.std.specs.Prelude.{◌≡◌, ℕ, ◌<◌, ◌≤◌, List, length, slice_index, IsPermutation}
use Rattle.std.specs.List.{flat_map}
use Rattle.qc_base.specs.declared.ids.Ion.{Ion}
use Rattle.trap_parts.specs.Parts.{TrapValue}
use Rattle.trap_model.specs.Trap.{place_count, limit_of}
use Rattle.ion_chain.specs.Transfer.{list_at}

-- the ions of each place, and how many each has room for
pub record ConfigValue : Type 0 where
  pub lists : List (List Ion)
  pub rooms : List ℕ

-- so many of the trap's first places have room for what they hold
abbrev pub HaveRoom : TrapValue → List ℕ → Type 0
HaveRoom trap rooms = (place : ℕ) → place < length rooms → limit_of trap place ≤ slice_index rooms place

-- it has the places of the trap, none above its limit, and room for that many in each
pub record IsConfigOf (trap : TrapValue) (config : ConfigValue) : Type 0 where
  pub places : length config.lists ≡ place_count trap
  pub within : (place : ℕ) → place < place_count trap
      → length (list_at config.lists place) ≤ limit_of trap place
  pub room : (place : ℕ) → place < place_count trap → limit_of trap place ≤ slice_index config.rooms place

-- ---- on lists alone

-- the ions of all places together
abbrev pub all_ions : List (List Ion) → List Ion
all_ions lists = flat_map (λ ions. ions) lists

-- the lists are those of the trap's places, and no place is above its limit
pub record IsWithinLimits (trap : TrapValue) (lists : List (List Ion)) : Type 0 where
  pub places : length lists ≡ place_count trap
  pub within : (place : ℕ) → place < place_count trap → length (list_at lists place) ≤ limit_of trap place

-- the new lists have the same ions as the old ones, and no place is above its limit
pub record IsKept (trap : TrapValue) (old new : List (List Ion)) : Type 0 where
  pub ions : IsPermutation (all_ions old) (all_ions new)
  pub limits : IsWithinLimits trap new
