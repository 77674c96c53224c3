-- Some cells of a grid, with the place of each; and the bounds within which all numbers are small.
use Rattle.std.specs.Prelude.{◌≡◌, ℕ, ◌+◌, ◌*◌, ◌<◌, ◌≤◌, ◌^◌, ◌⊎◌, List, length, Option, Some, None, slice_get, slice_index_or}
use Rattle.std.specs.List.{AllByRecursion}
use Rattle.step_vars.specs.declared.cells.Cell.{Cell}
use Rattle.step_vars.specs.declared.sizes.Sizes.{Sizes}
use Rattle.step_vars.specs.Numbering.{Numbering, rank, goal_from}

-- what a contract sees of cells of a grid
pub record Grid : Type 0 where
  pub rows : ℕ
  pub cols : ℕ
  pub members : List Cell

-- each of the cells is found at its own place
abbrev pub HaveOwnPlaces : List Cell → Type 0
HaveOwnPlaces cells = (place : ℕ) (it : Cell)
    → slice_get cells place ≡ Some it → rank cells it.row it.col ≡ Some place

-- ---- working notions of private functions

-- the cell is before that row and column in reading order
abbrev pub IsBefore : ℕ → ℕ → Cell → Type 0
IsBefore row col it = (it.row < row) ⊎ ((it.row ≡ row) × (it.col < col))

-- each of the cells is
abbrev pub AreBefore : ℕ → ℕ → List Cell → Type 0
AreBefore row col cells = AllByRecursion (IsBefore row col) cells

-- the cell is in a grid of that size
abbrev pub IsWithinGrid : ℕ → ℕ → Cell → Type 0
IsWithinGrid rows cols it = (it.row < rows) × (it.col < cols)

-- The table has the place of each cell of the grid among the members, and each member has its own place.
pub record AreRanks (rows cols : ℕ) (members : List Cell) (ranks : List (Option ℕ)) : Type 0 where
  pub size : length ranks ≡ rows * cols
  pub each : (row col : ℕ) → row < rows → col < cols
      → slice_index_or ranks (row * cols + col) None ≡ rank members row col
  pub own : HaveOwnPlaces members
  pub within : AllByRecursion (IsWithinGrid rows cols) members

-- the cells are in column 0
abbrev pub AreInColumn0 : List Cell → Type 0
AreInColumn0 cells = AllByRecursion (λ (it : Cell). it.col ≡ 0) cells

-- there are few of everything, and operations are in column 0
pub record IsBounded (n : Numbering) : Type 0 where
  pub ions : n.ions ≤ 16
  pub places : n.places ≤ 48
  pub zones : n.zones ≤ 32
  pub channels : n.channels ≤ 2048
  pub pairs : length n.pairs ≤ 256
  pub ops : length n.ops ≤ 200
  pub acts : length n.acts ≤ 6400
  pub helpers : n.helpers ≤ 2 ^ 18
  pub column : AreInColumn0 n.ops

-- and what they are found by
pub record AreFound (n : Numbering) : Type 0 where
  pub pairs : HaveOwnPlaces n.pairs
  pub ops : HaveOwnPlaces n.ops
  pub acts : HaveOwnPlaces n.acts
  pub column : AreInColumn0 n.ops

-- a part has fewer than 2^20 variables
abbrev pub IsSmallPart : Sizes → Type 0
IsSmallPart sizes = goal_from sizes < 2 ^ 20
