-- Working notions of private functions: where single ions are, and what the travel of one ion changes.
use Rattle.std.specs.Prelude.{◌≡◌, ◌≢◌, ℕ, zero, suc, ◌+◌, ◌*◌, ◌<◌, ◌≤◌, ◌==◌, Bool, ◌&&◌, if◌then◌else◌, List, [], ◌∷◌, length, slice_get}
use Rattle.std.specs.Option.{option_map_or}
use Rattle.qc_base.specs.declared.ids.Ion.{Ion}
use Rattle.qc_base.specs.declared.ids.PlaceId.{PlaceId}
use Rattle.qc_base.specs.Counting.{how_many}
use Rattle.trap_parts.specs.Parts.{TrapValue}
use Rattle.trap_model.specs.Trap.{limit_of}
use Rattle.ion_chain.specs.Transfer.{list_at}

-- how often the ion of that number is there
abbrev pub count_of : ℕ → List Ion → ℕ
count_of ion ions = how_many (λ (other : Ion). other.0 == ion) ions

-- 1 where the two are the same, else 0
abbrev pub one_if : ℕ → ℕ → ℕ
one_if a b = if a == b then 1 else 0

-- 1 where both pairs are the same, else 0
abbrev pub one_if_both : ℕ → ℕ → ℕ → ℕ → ℕ
one_if_both a b c d = if a == b && c == d then 1 else 0

-- the ion is in that zone, once, and nowhere else
pub record IsInZone (trap : TrapValue) (config : List (List Ion)) (ion zone : ℕ) : Type 0 where
  pub there : zone < length trap.zones
  pub once : (place : ℕ) → count_of ion (list_at config place) ≡ one_if place zone

-- the zone of an ion
abbrev pub home_of : List PlaceId → ℕ → ℕ
home_of homes ion = option_map_or (λ (home : PlaceId). home.0) (slice_get homes ion) 0

-- for each ion the zone in which it is, and there are no other ions
pub record AreHomes (trap : TrapValue) (config : List (List Ion)) (homes : List PlaceId) : Type 0 where
  pub present : (ion : ℕ) → ion < length homes → IsInZone trap config ion (home_of homes ion)
  pub known : (ion place : ℕ) → 1 ≤ count_of ion (list_at config place) → ion < length homes

-- one ion went from the one place to the other, and every other ion is in the place where it was
pub record IsMoved (before after : List (List Ion)) (ion from to : ℕ) : Type 0 where
  pub places : length after ≡ length before
  pub ions : (other place : ℕ) → count_of other (list_at after place) + one_if_both other ion place from
      ≡ count_of other (list_at before place) + one_if_both other ion place to
  pub lengths : (place : ℕ)
      → length (list_at after place) + one_if place from ≡ length (list_at before place) + one_if place to

-- the place has so many free places
abbrev pub HasFree : TrapValue → List (List Ion) → ℕ → ℕ → Type 0
HasFree trap config count place = length (list_at config place) + count ≤ limit_of trap place

-- every zone but that one has so many
abbrev pub OthersHaveFree : TrapValue → List (List Ion) → ℕ → ℕ → Type 0
OthersHaveFree trap config count zone =
    (other : ℕ) → other < length trap.zones → other ≢ zone → HasFree trap config count other

-- every zone has so many
abbrev pub AllHaveFree : TrapValue → List (List Ion) → ℕ → Type 0
AllHaveFree trap config count = (zone : ℕ) → zone < length trap.zones → HasFree trap config count zone

-- how many ions the first so many places hold, and the most that they may hold
abbrev pub ions_before : List (List Ion) → ℕ → ℕ
ions_before config zero = 0
ions_before config (suc place) = ions_before config place + length (list_at config place)

abbrev pub limits_before : TrapValue → ℕ → ℕ
limits_before trap zero = 0
limits_before trap (suc place) = limits_before trap place + limit_of trap place

-- Between two travels every slot is empty, and all zones together have at least twice as many free places as there
-- are zones.
pub record IsCalm (trap : TrapValue) (config : List (List Ion)) : Type 0 where
  pub slots : (place : ℕ) → length trap.zones ≤ place → list_at config place ≡ []
  pub spare : ions_before config (length trap.zones) + 2 * length trap.zones ≤ limits_before trap (length trap.zones)

-- at most one zone has fewer than two free places
pub record IsUncrowded (trap : TrapValue) (config : List (List Ion)) : Type 0 where
  pub zone : ℕ
  pub others : OthersHaveFree trap config 2 zone
