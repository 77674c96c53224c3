-- The numbers of the variables. Variables count from 1, part by part; a part is a row of blocks, one for each
-- kind of item.
use Rattle.std.specs.Prelude.{ℕ, zero, suc, ◌+◌, ◌*◌, ◌==◌, nat_lt, Bool, ◌&&◌, ◌||◌, if◌then◌else◌, List, length, Option, None, Some}
use Rattle.std.specs.Option.{option_map, option_map_or}
use Rattle.std.specs.List.{position_from}
use Rattle.sat_base.specs.Literal.{Literal}
use Rattle.step_vars.specs.declared.cells.Cell.{Cell}
use Rattle.step_vars.specs.declared.item.Item.{Item}
use Rattle.step_vars.specs.declared.item.Item.TheVariants.{At, Ord, Use, Leave, Swap, Act, Done, Goal}
use Rattle.step_vars.specs.declared.item.Claim.{Claim}
use Rattle.step_vars.specs.declared.sizes.Sizes.{Sizes}
use Rattle.step_vars.specs.Items.{time_of, is_of_time}

-- What the numbers of an encoding depend on: how many ions, places, zones and channels there are; the pairs of
-- ions, the operations (each with column 0) and the operations with their able zones; and how many helpers a
-- step has.
pub record Numbering : Type 0 where
  pub ions : ℕ
  pub places : ℕ
  pub zones : ℕ
  pub channels : ℕ
  pub pairs : List Cell
  pub ops : List Cell
  pub acts : List Cell
  pub helpers : ℕ

-- ---- how many variables of each kind a part has

-- part 0 has no step, and so nothing that happens in one
abbrev pub first_sizes : Numbering → Sizes
first_sizes n = record {
  ats = n.ions * n.places;
  ords = length n.pairs;
  uses = 0;
  leaves = 0;
  swaps = 0;
  acts = 0;
  dones = length n.ops;
  helpers = 0;
}

abbrev pub later_sizes : Numbering → Sizes
later_sizes n = record {
  ats = n.ions * n.places;
  ords = length n.pairs;
  uses = n.channels;
  leaves = n.ions * n.channels;
  swaps = length n.pairs * n.zones;
  acts = length n.acts;
  dones = length n.ops;
  helpers = n.helpers;
}

abbrev pub sizes_at : Numbering → ℕ → Sizes
sizes_at n zero = first_sizes n
sizes_at n (suc r) = later_sizes n

-- where each block begins in its part
abbrev pub ords_from : Sizes → ℕ
ords_from s = s.ats

abbrev pub uses_from : Sizes → ℕ
uses_from s = ords_from s + s.ords

abbrev pub leaves_from : Sizes → ℕ
leaves_from s = uses_from s + s.uses

abbrev pub swaps_from : Sizes → ℕ
swaps_from s = leaves_from s + s.leaves

abbrev pub acts_from : Sizes → ℕ
acts_from s = swaps_from s + s.swaps

abbrev pub dones_from : Sizes → ℕ
dones_from s = acts_from s + s.acts

abbrev pub helpers_from : Sizes → ℕ
helpers_from s = dones_from s + s.dones

abbrev pub goal_from : Sizes → ℕ
goal_from s = helpers_from s + s.helpers

-- the goal is one variable
abbrev pub part_size : Sizes → ℕ
part_size s = goal_from s + 1

-- how many variables the parts before that time have
abbrev pub before : Numbering → ℕ → ℕ
before n zero = 0
before n (suc r) = before n r + part_size (sizes_at n r)

-- ---- the number of an item

abbrev pub is_cell : ℕ → ℕ → Cell → Bool
is_cell row col it = it.row == row && it.col == col

-- the place of a cell in the list
unfoldable pub rank : List Cell → ℕ → ℕ → Option ℕ
rank cells row col = position_from (is_cell row col) 0 cells

-- where an item's block begins in its part
abbrev pub block_from : Sizes → Item → ℕ
block_from s (At i p t) = 0
block_from s (Ord i j t) = ords_from s
block_from s (Use c t) = uses_from s
block_from s (Leave i c t) = leaves_from s
block_from s (Swap i j z t) = swaps_from s
block_from s (Act g z t) = acts_from s
block_from s (Done g t) = dones_from s
block_from s (Goal t) = goal_from s

-- the place of an item in its block, indices in the order of its fields, the first outermost; none where it has
-- none
abbrev pub index_in_block : Numbering → Item → Option ℕ
index_in_block n (At i p t) =
    if nat_lt i.0 n.ions && nat_lt p.0 n.places then Some (i.0 * n.places + p.0) else None
index_in_block n (Ord i j t) = rank n.pairs i.0 j.0
index_in_block n (Use c t) = if nat_lt c n.channels then Some c else None
index_in_block n (Leave i c t) =
    if nat_lt i.0 n.ions && nat_lt c n.channels then Some (i.0 * n.channels + c) else None
index_in_block n (Swap i j z t) =
    if nat_lt z.0 n.zones then option_map (λ k. k * n.zones + z.0) (rank n.pairs i.0 j.0) else None
index_in_block n (Act g z t) = rank n.acts g.0 z.0
index_in_block n (Done g t) = rank n.ops g.0 0
index_in_block n (Goal t) = Some 0

-- what happens in a step is in no part 0
abbrev pub is_timely : Item → Bool
is_timely item = is_of_time item || nat_lt 0 (time_of item)

-- the number of an item; none where the encoding doesn't have it
unfoldable pub number_of : Numbering → Item → Option ℕ
number_of n item =
    if is_timely item
    then option_map (λ k. before n (time_of item) + block_from (sizes_at n (time_of item)) item + k + 1)
    (index_in_block n item)
    else None

-- the literal of a claim; 0 stands for an item that the encoding doesn't have
abbrev pub literal_of : Numbering → Claim → Literal
literal_of n claim =
    record { var = option_map_or (λ k. k) (number_of n claim.item) 0; positive = claim.positive }

-- the first helper of a part
abbrev pub first_helper : Numbering → ℕ → ℕ
first_helper n t = before n t + helpers_from (sizes_at n t) + 1
