-- Working notions of private functions: how a trail is stored, a list with a table of places.
use Rattle.std.specs.Prelude.{◌≡◌, ℕ, ◌-◌, ◌<◌, ◌≤◌, ◌^◌, List, [], Some, length, slice_get, slice_index, Vec, vec_capacity}
use Rattle.std.specs.declared.alloc.Global.{Global}
use Rattle.solver_trail.specs.declared.values.Assigned.{Assigned}
use Rattle.solver_trail.specs.Trail.{last_level, AreInOrder}

-- the table has the place of each assigned variable
pub record ArePlaced (entries : List Assigned) (places : List ℕ) : Type 0 where
  pub within : (place : ℕ) (entry : Assigned) → slice_get entries place ≡ Some entry
      → (1 ≤ entry.literal.var) × (entry.literal.var ≤ length places)
  pub at : (place : ℕ) (entry : Assigned) → slice_get entries place ≡ Some entry
      → slice_index places (entry.literal.var - 1) ≡ place

-- the trail is in order, the table is its, and there is room for all variables
pub record AreStored (entries : Vec Assigned Global) (current : ℕ) (places : List ℕ) (signed : ℕ)
    : Type 0 where
  pub few : length places < 2 ^ 31
  pub room : length places ≤ vec_capacity entries
  pub signs : length places ≤ signed
  pub order : AreInOrder [] entries.items
  pub level : current ≡ last_level entries.items
  pub placed : ArePlaced entries.items places
