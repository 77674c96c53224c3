-- A place of a list of chains, seen by its ions and by its room.
use Rattle.std.proofs.Common.{◌≡◌, ℕ, zero, suc, ◌+◌, List, [], ◌∷◌, length, map, slice_index, refl}
use Rattle.ion_chain.specs.ChainValue.{ChainValue, ions_of, room_of, row_at}
use Rattle.ion_chain.specs.Transfer.{list_at}

pub list_at-map : (rows : List ChainValue) (place : ℕ) → list_at (map ions_of rows) place ≡ (row_at rows place).ions
list_at-map [] place = refl
list_at-map (row ∷ rows) zero = refl
list_at-map (row ∷ rows) (suc place) = list_at-map rows place

-- the room of a place is its length and its spare
pub room_at-map : (rows : List ChainValue) (place : ℕ) → slice_index (map room_of rows) place ≡ length (row_at rows place).ions + (row_at rows place).spare
room_at-map [] place = refl
room_at-map (row ∷ rows) zero = refl
room_at-map (row ∷ rows) (suc place) = room_at-map rows place
