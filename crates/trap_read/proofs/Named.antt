-- The names of the parts that rows are have the form of names.
use Rattle.std.proofs.Common.{ℕ, ◌+◌, IsTrue, List, Option, None, Some, Result, Ok, Err, IfOk, inl, inr, if◌then◌else◌, codes}
use Rattle.std.specs.List.{All}
use Rattle.std.proofs.lemmas.Bool.{cases_Bool}
use Rattle.std.proofs.lemmas.List.Elements.{All-append, All-map, All-cons, All-nil}
use Rattle.toml.specs.Data.{Data, string, integer, float, boolean, datetime, array, table, Items, no_items, item, get_member}
use Rattle.trap_parts.specs.Names.{is_name}
use Rattle.trap_parts.specs.Parts.{names_of}
use Rattle.trap_parts.specs.Build.{AreNames}
use Rattle.trap_read.specs.declared.fault.KeyAt.{KeyAt}
use Rattle.trap_read.specs.declared.fault.Section.{Section}
use Rattle.trap_read.specs.declared.fault.Section.TheVariants.{Zone, Segment, Junction, Join}
use Rattle.trap_read.specs.declared.fault.TrapText.{TrapText}
use Rattle.trap_read.specs.declared.fault.TrapText.TheVariants.{Range}
use Rattle.trap_read.specs.Answers.{◌>>=◌, ◌>>◌}
use Rattle.trap_read.specs.Keys.{RowValue, key_of, only_known, under, name_at, number_at, can_at}
use Rattle.trap_read.specs.Rows.{zone_of, segment_of, junction_of, join_of, row_at, rows_from}
use Rattle.trap_read.specs.TrapFile.{TopValues, parts_of}

abbrev IsNamed : List ℕ → Type 0
IsNamed name = IsTrue (is_name name)

pub bind_ok : {X Y : Type 0} (P : X → Type 0) (Q : Y → Type 0) (r : Result X TrapText) (f : X → Result Y TrapText) → IfOk r P → ((x : X) → P x → IfOk (f x) Q) → IfOk (r >>= f) Q
bind_ok P Q (Ok x) f h g = g x h
bind_ok P Q (Err e) f h g = tt

pub any_ok : {X Y : Type 0} (Q : Y → Type 0) (r : Result X TrapText) (f : X → Result Y TrapText) → ((x : X) → IfOk (f x) Q) → IfOk (r >>= f) Q
any_ok Q (Ok x) f g = g x
any_ok Q (Err e) f g = tt

pub then_ok : {X Y : Type 0} (Q : Y → Type 0) (first : Result X TrapText) (second : Result Y TrapText) → IfOk second Q → IfOk (first >> second) Q
then_ok Q (Ok x) second h = h
then_ok Q (Err e) second h = tt

text_ok : (key : KeyAt) (text : List ℕ) → IfOk (if is_name text then Ok text else Err (Range key)) IsNamed
text_ok key text =
    elim (cases_Bool (is_name text)) [
      | inl name ↦ rw name name
      | inr none ↦ rw none tt
    ]

name_ok : (key : KeyAt) (value : Option Data) → IfOk (name_at key value) IsNamed
name_ok key None = tt
name_ok key (Some (string text)) = text_ok key text
name_ok key (Some (integer z)) = tt
name_ok key (Some (float x)) = tt
name_ok key (Some (boolean b)) = tt
name_ok key (Some (datetime dt)) = tt
name_ok key (Some (array ds)) = tt
name_ok key (Some (table ms)) = tt

under_ok : (row : RowValue) → IfOk (under row (codes "name") name_at) IsNamed
under_ok row = name_ok (key_of row (codes "name")) (get_member (codes "name") row.members)

pub zone_ok : (row : RowValue) → IfOk (zone_of row) (λ zone. IsNamed zone.name)
unfolding zone_of
zone_ok row =
    then_ok _ (only_known row) _
    (bind_ok IsNamed _ (under row (codes "name") name_at) _ (under_ok row)
    (λ name named. any_ok _ (under row (codes "capacity") number_at) _ (λ capacity. any_ok _ (under row (codes "can") can_at) _ (λ can. named))))

pub segment_ok : (row : RowValue) → IfOk (segment_of row) (λ segment. IsNamed segment.name)
unfolding segment_of
segment_ok row =
    then_ok _ (only_known row) _
    (bind_ok IsNamed _ (under row (codes "name") name_at) _ (under_ok row)
    (λ name named. any_ok _ (under row (codes "slots") number_at) _ (λ slots. any_ok _ (under row (codes "load") number_at) _ (λ load. named))))

pub junction_ok : (row : RowValue) → IfOk (junction_of row) IsNamed
unfolding junction_of
junction_ok row = then_ok IsNamed (only_known row) _ (under_ok row)

pub rows_ok : {X : Type 0} (P : X → Type 0) (part : RowValue → Result X TrapText) → ((row : RowValue) → IfOk (part row) P)
    → (section : Section) (index : ℕ) (rows : Items) → IfOk (rows_from part section index rows) (λ parts. All P parts)
rows_ok P part each section index no_items = All-nil P
rows_ok P part each section index (item (table members) rows) =
    bind_ok P _ (part (row_at section index members)) _ (each _)
    (λ first here. bind_ok (λ rest. All P rest) _ (rows_from part section (index + 1) rows) _ (rows_ok P part each section (index + 1) rows) (λ rest more. All-cons P first rest here more))
rows_ok P part each section index (item (string x) rows) = rows_ok P part each section (index + 1) rows
rows_ok P part each section index (item (integer x) rows) = rows_ok P part each section (index + 1) rows
rows_ok P part each section index (item (float x) rows) = rows_ok P part each section (index + 1) rows
rows_ok P part each section index (item (boolean x) rows) = rows_ok P part each section (index + 1) rows
rows_ok P part each section index (item (datetime x) rows) = rows_ok P part each section (index + 1) rows
rows_ok P part each section index (item (array x) rows) = rows_ok P part each section (index + 1) rows

pub parts_ok : (tops : TopValues) → IfOk (parts_of tops) (λ parts. AreNames (names_of parts))
unfolding parts_of
parts_ok tops =
    bind_ok (λ zones. All (λ zone. IsNamed zone.name) zones) _ (rows_from zone_of Zone 0 tops.zones) _ (rows_ok (λ zone. IsNamed zone.name) zone_of zone_ok Zone 0 tops.zones)
    (λ zones of_zones. bind_ok (λ segments. All (λ segment. IsNamed segment.name) segments) _ (rows_from segment_of Segment 0 tops.segments) _ (rows_ok (λ segment. IsNamed segment.name) segment_of segment_ok Segment 0 tops.segments)
    (λ segments of_segments. bind_ok (λ junctions. All IsNamed junctions) _ (rows_from junction_of Junction 0 tops.junctions) _ (rows_ok IsNamed junction_of junction_ok Junction 0 tops.junctions)
    (λ junctions of_junctions. any_ok _ (rows_from join_of Join 0 tops.joins) _
    (λ joins. All-append IsNamed _ _ (All-append IsNamed _ _ (All-map IsNamed (λ zone. zone.name) zones of_zones) (All-map IsNamed (λ segment. segment.name) segments of_segments)) of_junctions))))
