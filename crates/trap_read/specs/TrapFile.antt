-- The trap of a file, or its first refusal.
use Rattle.std.specs.Prelude.{ℕ, codes, List, Option, None, Result, Ok, Err, if◌then◌else◌}
use Rattle.std.specs.Option.{option_map, ok_or}
use Rattle.std.specs.Str.{is_utf8}
use Rattle.toml.specs.Data.{Items, Members}
use Rattle.toml.specs.View.{items_view, table_view}
use Rattle.toml.specs.Parse.{parse_document}
use Rattle.trap_parts.specs.declared.fault.TrapFault.{TrapFault}
use Rattle.trap_parts.specs.declared.fault.TrapFault.TheVariants as faults
use Rattle.trap_parts.specs.Parts.{TrapValue}
use Rattle.trap_parts.specs.Build.{build_of}
use Rattle.trap_read.specs.declared.fault.Section.TheVariants.{Top, Zone, Segment, Junction, Join}
use Rattle.trap_read.specs.declared.fault.TrapText.{TrapText}
use Rattle.trap_read.specs.declared.fault.TrapText.TheVariants.{Toml, Trap, NoMemory}
use Rattle.trap_read.specs.declared.file.Tops.{Tops}
use Rattle.trap_read.specs.Answers.{◌>>=◌, ◌>>◌}
use Rattle.trap_read.specs.Keys.{RowValue, only_known, under, rows_at, table_at}
use Rattle.trap_read.specs.Rows.{rows_from, zone_of, segment_of, junction_of, join_of}
use Rattle.trap_read.specs.Labels.{place_passes, given_of}

-- A trap, and the labels for each of its zones where the file has the table `place`.
abbrev pub FileValue : Type 0
FileValue = TrapValue × Option (List (List (List ℕ)))

-- the table that the bytes are, where they are a TOML text
abbrev pub table_of : List ℕ → Option Members
table_of bytes = if is_utf8 bytes then parse_document bytes else None

-- what is under the top keys
pub record TopValues : Type 0 where
  pub zones : Items
  pub segments : Items
  pub junctions : Items
  pub joins : Items
  pub place : Option Members

abbrev pub tops_view : Tops → TopValues
tops_view tops = record {
  zones = items_view tops.zones.now;
  segments = items_view tops.segments.now;
  junctions = items_view tops.junctions.now;
  joins = items_view tops.joins.now;
  place = option_map (λ table. table_view table.now) tops.place;
}

abbrev pub top_row : Members → RowValue
top_row members = record { section = Top; number = 0; members = members }

-- no top key is unknown, and then each is of its kind
unfoldable pub tops_of : RowValue → Result TopValues TrapText
tops_of top = do
  only_known top
  zones ← under top (codes "zone") rows_at
  segments ← under top (codes "segment") rows_at
  junctions ← under top (codes "junction") rows_at
  joins ← under top (codes "join") rows_at
  place ← under top (codes "place") table_at
  Ok (record { zones = zones; segments = segments; junctions = junctions; joins = joins; place = place })

-- the parts of all rows, by section and in file order
unfoldable pub parts_of : TopValues → Result TrapValue TrapText
parts_of tops = do
  zones ← rows_from zone_of Zone 0 tops.zones
  segments ← rows_from segment_of Segment 0 tops.segments
  junctions ← rows_from junction_of Junction 0 tops.junctions
  joins ← rows_from join_of Join 0 tops.joins
  Ok (record { zones = zones; segments = segments; junctions = junctions; joins = joins })

-- the refusal of a file that a fault of building is
abbrev pub refusal_of : TrapFault → TrapText
refusal_of faults.NoMemory = NoMemory
refusal_of fault = Trap fault

abbrev pub as_refusal : {X : Type 0} → Result X TrapFault → Result X TrapText
as_refusal (Ok x) = Ok x
as_refusal (Err fault) = Err (refusal_of fault)

-- The trap of a table: the top keys, the rows, the table `place`, and then the tests of building.
unfoldable pub file_of : Members → Result FileValue TrapText
file_of members = do
  tops ← tops_of (top_row members)
  parts ← parts_of tops
  place_passes parts.zones tops.place
  trap ← as_refusal (build_of parts)
  Ok (trap, given_of trap.zones tops.place)

-- The trap and the labels of the bytes, or the first refusal.
unfoldable pub trap_of : List ℕ → Result FileValue TrapText
trap_of bytes = ok_or (table_of bytes) Toml >>= file_of
