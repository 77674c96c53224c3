-- Which texts are those of slots.
use Rattle.std.specs.Prelude.{◌≡◌, ◌≢◌, ℕ, ◌<◌, ◌≤◌, List, length}
use Rattle.trap_parts.specs.Parts.{TrapValue}
use Rattle.trap_model.specs.Trap.{place_count, place_text}

-- the place is a slot, and is written so
pub record IsSlotText (trap : TrapValue) (place : ℕ) (text : List ℕ) : Type 0 where
  pub after_zones : length trap.zones ≤ place
  pub there : place < place_count trap
  pub written : place_text trap place ≡ text

-- no slot is written so
abbrev pub IsNoSlotText : TrapValue → List ℕ → Type 0
IsNoSlotText trap text =
    (place : ℕ) → length trap.zones ≤ place → place < place_count trap → place_text trap place ≢ text
