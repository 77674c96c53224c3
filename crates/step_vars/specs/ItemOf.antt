-- The item of a number: numbering read back.
use Rattle.std.specs.Prelude.{◌≡◌, ℕ, ◌+◌, ◌-◌, ◌/◌, ◌%◌, nat_lt, nat_le, if◌then◌else◌, IsTrue, Option, None, Some, slice_get}
use Rattle.std.specs.Option.{option_map}
use Rattle.step_vars.specs.declared.cells.Cell.{Cell}
use Rattle.step_vars.specs.declared.item.Item.{Item}
use Rattle.step_vars.specs.declared.sizes.Sizes.{Sizes}
use Rattle.step_vars.specs.Items.{at_item, ord_item, use_item, leave_item, swap_item, act_item, done_item, goal_item, time_of}
use Rattle.step_vars.specs.Encoding.{VarsValue}
use Rattle.step_vars.specs.Numbering.{Numbering, first_sizes, later_sizes, sizes_at, part_size, before, ords_from, uses_from, leaves_from, swaps_from, acts_from, dones_from, helpers_from, goal_from, block_from, index_in_block, is_timely}

-- The item is at that place of the part of that time, counted from 0.
pub record IsAt (n : Numbering) (t place : ℕ) (item : Item) : Type 0 where
  pub timely : IsTrue (is_timely item)
  pub time : time_of item ≡ t
  pub index : ℕ
  pub found : index_in_block n item ≡ Some index
  pub at : block_from (sizes_at n t) item + index ≡ place

-- ---- the item at a place of a part of those sizes

-- orders of ions
abbrev pub order_at : Numbering → ℕ → ℕ → Option Item
order_at n t index = option_map (λ (pair : Cell). ord_item pair.row pair.col t) (slice_get n.pairs index)

-- where ions are, and their order
abbrev pub position_at : Numbering → Sizes → ℕ → ℕ → Option Item
position_at n sizes t place =
    if nat_lt place (ords_from sizes)
    then Some (at_item (place / n.places) (place % n.places) t)
    else order_at n t (place - ords_from sizes)

-- ions that pass through a channel
abbrev pub leave_at : Numbering → ℕ → ℕ → Item
leave_at n t index = leave_item (index / n.channels) (index % n.channels) t

-- ions that change places
abbrev pub swap_at : Numbering → ℕ → ℕ → Option Item
swap_at n t index =
    option_map (λ (pair : Cell). swap_item pair.row pair.col (index % n.zones) t)
    (slice_get n.pairs (index / n.zones))

-- channels in use, ions that pass, and swaps
abbrev pub transport_at : Numbering → Sizes → ℕ → ℕ → Option Item
transport_at n sizes t place =
    if nat_lt place (leaves_from sizes) then Some (use_item (place - uses_from sizes) t) else
    if nat_lt place (swaps_from sizes) then Some (leave_at n t (place - leaves_from sizes)) else
    swap_at n t (place - swaps_from sizes)

-- operations that are performed
abbrev pub act_at : Numbering → ℕ → ℕ → Option Item
act_at n t index = option_map (λ (act : Cell). act_item act.row act.col t) (slice_get n.acts index)

-- operations that are done
abbrev pub done_at : Numbering → ℕ → ℕ → Option Item
done_at n t index = option_map (λ (op : Cell). done_item op.row t) (slice_get n.ops index)

-- operations and the goal; a helper is no item
abbrev pub operation_at : Numbering → Sizes → ℕ → ℕ → Option Item
operation_at n sizes t place =
    if nat_lt place (dones_from sizes) then act_at n t (place - acts_from sizes) else
    if nat_lt place (helpers_from sizes) then done_at n t (place - dones_from sizes) else
    if nat_lt place (goal_from sizes) then None else Some (goal_item t)

abbrev pub item_at : Numbering → Sizes → ℕ → ℕ → Option Item
item_at n sizes t place =
    if nat_lt place (uses_from sizes) then position_at n sizes t place else
    if nat_lt place (acts_from sizes) then transport_at n sizes t place else
    operation_at n sizes t place

-- ---- the part of a number, of which k variables are before it

abbrev pub part_at : Numbering → ℕ → ℕ
part_at n k =
    if nat_lt k (part_size (first_sizes n)) then 0 else
    (k - part_size (first_sizes n)) / part_size (later_sizes n) + 1

abbrev pub place_at : Numbering → ℕ → ℕ
place_at n k =
    if nat_lt k (part_size (first_sizes n)) then k else
    (k - part_size (first_sizes n)) % part_size (later_sizes n)

-- the item of a number; none for a helper and for 0
unfoldable pub item_of : Numbering → ℕ → Option Item
item_of n var =
    if nat_lt 0 var
    then item_at n (sizes_at n (part_at n (var - 1))) (part_at n (var - 1)) (place_at n (var - 1))
    else None

-- the item of a number that the parts up to the last time have
abbrev pub item_in : VarsValue → ℕ → Option Item
item_in vars var =
    if nat_le var (before vars.numbering (vars.steps + 1)) then item_of vars.numbering var else None
