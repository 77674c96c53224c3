-- The rows of a trap file.
use Rattle.std.specs.Prelude.{ℕ, ◌+◌, ◌-◌, ◌^◌, min, codes, List, [], ◌∷◌, ◌++◌, Result, Ok}
use Rattle.toml.specs.Data.{table, Items, no_items, item, Members}
use Rattle.trap_parts.specs.declared.parts.ZonePart.{ZonePart}
use Rattle.trap_parts.specs.declared.parts.SegmentPart.{SegmentPart}
use Rattle.trap_parts.specs.declared.parts.JoinPart.{JoinPart}
use Rattle.trap_read.specs.declared.fault.Section.{Section}
use Rattle.trap_read.specs.declared.fault.TrapText.{TrapText}
use Rattle.trap_read.specs.Answers.{◌>>=◌, ◌>>◌}
use Rattle.trap_read.specs.Keys.{RowValue, only_known, under, name_at, number_at, can_at, ends_at}

unfoldable pub zone_of : RowValue → Result ZonePart TrapText
zone_of row = do
  only_known row
  name ← under row (codes "name") name_at
  capacity ← under row (codes "capacity") number_at
  can ← under row (codes "can") can_at
  Ok (record { name = name; capacity = capacity; one = can.one; two = can.two; read = can.read })

unfoldable pub segment_of : RowValue → Result SegmentPart TrapText
segment_of row = do
  only_known row
  name ← under row (codes "name") name_at
  slots ← under row (codes "slots") number_at
  load ← under row (codes "load") number_at
  Ok (record { name = name; slots = slots; load = load })

unfoldable pub junction_of : RowValue → Result (List ℕ) TrapText
junction_of row = only_known row >> under row (codes "name") name_at

unfoldable pub join_of : RowValue → Result JoinPart TrapText
join_of row = only_known row >> under row (codes "ends") ends_at

-- rows count from 1, as far as a number goes
abbrev pub row_number : ℕ → ℕ
row_number index = min (index + 1) (2 ^ 32 - 1)

abbrev pub row_at : Section → ℕ → Members → RowValue
row_at section index members = record { section = section; number = row_number index; members = members }

-- the parts that the rows of a section are, from the row at an index on
abbrev pub rows_from : {X : Type 0} → (RowValue → Result X TrapText) → Section → ℕ → Items
    → Result (List X) TrapText
rows_from part section index no_items = Ok []
rows_from part section index (item (table members) rows) =
    part (row_at section index members)
    >>= (λ first. rows_from part section (index + 1) rows >>= (λ rest. Ok (first ∷ rest)))
rows_from part section index (item value rows) = rows_from part section (index + 1) rows

-- ---- for private functions

-- the parts so far, and those that are left
abbrev pub with_front : {X : Type 0} → List X → Result (List X) TrapText → Result (List X) TrapText
with_front front answer = answer >>= (λ parts. Ok (front ++ parts))
