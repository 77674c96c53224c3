-- What holds of all trap files.
use Rattle.std.proofs.Common.{◌≡◌, ℕ, Bool, true, false, List, [], ◌∷◌, length, map, Option, None, Some, IfSome, Result, Ok, Err, IfOk, IfErr, refl, sym, subst, ap, ◌∙◌, if◌then◌else◌, codes, pos, negsuc, nat_le, ◌+◌}
use Rattle.std.specs.Option.{option_map, ok_or}
use Rattle.std.proofs.lemmas.Result.{IfOk-at_ok}
use Rattle.std.proofs.lemmas.Bool.{false≢true}
use Rattle.toml.specs.Data.{Data, string, integer, float, boolean, datetime, array, table, Items, no_items, item, Members, no_members, member, get_member}
use Rattle.trap_parts.specs.declared.fault.TrapFault.{TrapFault}
use Rattle.trap_parts.specs.declared.fault.TrapFault.TheVariants as faults
use Rattle.trap_parts.specs.declared.parts.ZonePart.{ZonePart}
use Rattle.trap_parts.specs.Parts.{TrapValue}
use Rattle.trap_parts.specs.Names.{is_name}
use Rattle.trap_parts.specs.Build.{build_of}
use Rattle.trap_read.specs.declared.fault.KeyAt.{KeyAt}
use Rattle.trap_read.specs.declared.fault.Section.{Section}
use Rattle.trap_read.specs.declared.fault.Section.TheVariants.{Zone, Segment, Junction, Join}
use Rattle.trap_read.specs.declared.fault.TrapText.{TrapText}
use Rattle.trap_read.specs.declared.fault.TrapText.TheVariants.{Toml, Extra, Missing, Kind, Range, Trap, NoMemory}
use Rattle.trap_read.specs.Answers.{◌>>=◌, ◌>>◌, unless}
use Rattle.trap_read.specs.Keys.{RowValue, key_of, only_known, none_extra, extra_key, under, name_at, number_at, can_at, ends_at, rows_at, table_at, is_texts, texts_in, are_abilities, abilities, ends_in, all_items, is_table}
use Rattle.trap_read.specs.Rows.{zone_of, segment_of, junction_of, join_of, row_at, rows_from}
use Rattle.trap_read.specs.Labels.{place_key, is_zone, keys_pass, place_passes, labels_under, labels_of, given_of}
use Rattle.trap_read.specs.TrapFile.{FileValue, TopValues, table_of, top_row, tops_of, parts_of, refusal_of, as_refusal, file_of, trap_of}
use Rattle.trap_read.proofs.Named.{any_ok, then_ok}

-- ---- a list of labels for each zone

abbrev HasEach : FileValue → Type 0
HasEach file = IfSome file.1 (λ given. length given ≡ length file.0.zones)

count_of : (zones : List ZonePart) (members : Members) → length (labels_of zones members) ≡ length zones
count_of [] members = refl
count_of (zone ∷ zones) members = rw (count_of zones members)

each_of : (trap : TrapValue) (place : Option Members) → HasEach (trap, given_of trap.zones place)
each_of trap None = tt
each_of trap (Some members) = count_of trap.zones members

file_each : (members : Members) → IfOk (file_of members) HasEach
unfolding file_of
file_each members =
    any_ok HasEach (tops_of (top_row members)) _ (λ tops. any_ok HasEach (parts_of tops) _
    (λ parts. then_ok HasEach (place_passes parts.zones tops.place) _ (any_ok HasEach (as_refusal (build_of parts)) _ (λ trap. each_of trap tops.place))))

trap_each : (bytes : List ℕ) → IfOk (trap_of bytes) HasEach
unfolding trap_of
trap_each bytes = any_ok HasEach (ok_or (table_of bytes) Toml) _ file_each

pub labels_for_each : (bytes : List ℕ) (trap : TrapValue) (given : List (List (List ℕ))) → trap_of bytes ≡ Ok (trap, Some given) → length given ≡ length trap.zones
labels_for_each bytes trap given e = IfOk-at_ok HasEach e (trap_each bytes)

-- ---- no fault of building is that memory ran out

abbrev is_inner : TrapText → Bool
is_inner (Trap faults.NoMemory) = true
is_inner _ = false

abbrev IsOuter : {X : Type 0} → Result X TrapText → Type 0
IsOuter answer = IfErr answer (λ refusal. is_inner refusal ≡ false)

bind_outer : {X Y : Type 0} (answer : Result X TrapText) (f : X → Result Y TrapText) → IsOuter answer → ((x : X) → IsOuter (f x)) → IsOuter (answer >>= f)
bind_outer (Ok x) f h g = g x
bind_outer (Err e) f h g = h

then_outer : {X Y : Type 0} (first : Result X TrapText) (second : Result Y TrapText) → IsOuter first → IsOuter second → IsOuter (first >> second)
then_outer (Ok x) second h g = g
then_outer (Err e) second h g = h

unless_outer : (test : Bool) (refusal : TrapText) → is_inner refusal ≡ false → IsOuter (unless test refusal)
unless_outer true refusal h = tt
unless_outer false refusal h = h

if_outer : {X : Type 0} (test : Bool) (x : X) (refusal : TrapText) → is_inner refusal ≡ false → IsOuter (if test then Ok x else Err refusal)
if_outer true x refusal h = tt
if_outer false x refusal h = h

or_outer : {X : Type 0} (found : Option X) (refusal : TrapText) → is_inner refusal ≡ false → IsOuter (ok_or found refusal)
or_outer None refusal h = h
or_outer (Some x) refusal h = tt

extra_outer : (row : RowValue) (key : Option (List ℕ)) → IsOuter (none_extra row key)
extra_outer row None = tt
extra_outer row (Some key) = refl

known_outer : (row : RowValue) → IsOuter (only_known row)
unfolding only_known
known_outer row = extra_outer row (extra_key row)

name_outer : (key : KeyAt) (value : Option Data) → IsOuter (name_at key value)
name_outer key None = refl
name_outer key (Some (string text)) = if_outer (is_name text) text (Range key) refl
name_outer key (Some (integer z)) = refl
name_outer key (Some (float x)) = refl
name_outer key (Some (boolean b)) = refl
name_outer key (Some (datetime dt)) = refl
name_outer key (Some (array ds)) = refl
name_outer key (Some (table ms)) = refl

number_outer : (key : KeyAt) (value : Option Data) → IsOuter (number_at key value)
number_outer key None = refl
number_outer key (Some (string text)) = refl
number_outer key (Some (integer (pos n))) = if_outer (nat_le n 65535) n (Range key) refl
number_outer key (Some (integer (negsuc n))) = refl
number_outer key (Some (float x)) = refl
number_outer key (Some (boolean b)) = refl
number_outer key (Some (datetime dt)) = refl
number_outer key (Some (array ds)) = refl
number_outer key (Some (table ms)) = refl

can_outer : (key : KeyAt) (value : Option Data) → IsOuter (can_at key value)
can_outer key None = tt
can_outer key (Some value) =
    then_outer (unless (is_texts value) (Kind key) >> unless (are_abilities (texts_in value)) (Range key)) _
    (then_outer (unless (is_texts value) (Kind key)) _ (unless_outer (is_texts value) (Kind key) refl) (unless_outer (are_abilities (texts_in value)) (Range key) refl)) tt

ends_outer : (key : KeyAt) (value : Option Data) → IsOuter (ends_at key value)
ends_outer key None = refl
ends_outer key (Some value) = then_outer (unless (is_texts value) (Kind key)) _ (unless_outer (is_texts value) (Kind key) refl) (or_outer (ends_in (texts_in value)) (Range key) refl)

rows_outer : (key : KeyAt) (value : Option Data) → IsOuter (rows_at key value)
rows_outer key None = tt
rows_outer key (Some (string text)) = refl
rows_outer key (Some (integer z)) = refl
rows_outer key (Some (float x)) = refl
rows_outer key (Some (boolean b)) = refl
rows_outer key (Some (datetime dt)) = refl
rows_outer key (Some (array ds)) = then_outer (unless (all_items is_table ds) (Kind key)) _ (unless_outer (all_items is_table ds) (Kind key) refl) tt
rows_outer key (Some (table ms)) = refl

table_outer : (key : KeyAt) (value : Option Data) → IsOuter (table_at key value)
table_outer key None = tt
table_outer key (Some (string text)) = refl
table_outer key (Some (integer z)) = refl
table_outer key (Some (float x)) = refl
table_outer key (Some (boolean b)) = refl
table_outer key (Some (datetime dt)) = refl
table_outer key (Some (array ds)) = refl
table_outer key (Some (table ms)) = tt

under_outer : {X : Type 0} (test : KeyAt → Option Data → Result X TrapText) → ((key : KeyAt) (value : Option Data) → IsOuter (test key value)) → (row : RowValue) (key : List ℕ) → IsOuter (under row key test)
under_outer test each row key = each (key_of row key) (get_member key row.members)

zone_outer : (row : RowValue) → IsOuter (zone_of row)
unfolding zone_of
zone_outer row =
    then_outer (only_known row) _ (known_outer row)
    (bind_outer _ _ (under_outer name_at name_outer row (codes "name"))
    (λ name. bind_outer _ _ (under_outer number_at number_outer row (codes "capacity"))
    (λ capacity. bind_outer _ _ (under_outer can_at can_outer row (codes "can")) (λ can. tt))))

segment_outer : (row : RowValue) → IsOuter (segment_of row)
unfolding segment_of
segment_outer row =
    then_outer (only_known row) _ (known_outer row)
    (bind_outer _ _ (under_outer name_at name_outer row (codes "name"))
    (λ name. bind_outer _ _ (under_outer number_at number_outer row (codes "slots"))
    (λ slots. bind_outer _ _ (under_outer number_at number_outer row (codes "load")) (λ load. tt))))

junction_outer : (row : RowValue) → IsOuter (junction_of row)
unfolding junction_of
junction_outer row = then_outer (only_known row) _ (known_outer row) (under_outer name_at name_outer row (codes "name"))

join_outer : (row : RowValue) → IsOuter (join_of row)
unfolding join_of
join_outer row = then_outer (only_known row) _ (known_outer row) (under_outer ends_at ends_outer row (codes "ends"))

section_outer : {X : Type 0} (part : RowValue → Result X TrapText) → ((row : RowValue) → IsOuter (part row))
    → (section : Section) (index : ℕ) (rows : Items) → IsOuter (rows_from part section index rows)
section_outer part each section index no_items = tt
section_outer part each section index (item (table members) rows) =
    bind_outer (part (row_at section index members)) _ (each (row_at section index members))
    (λ first. bind_outer (rows_from part section (index + 1) rows) _ (section_outer part each section (index + 1) rows) (λ rest. tt))
section_outer part each section index (item (string x) rows) = section_outer part each section (index + 1) rows
section_outer part each section index (item (integer x) rows) = section_outer part each section (index + 1) rows
section_outer part each section index (item (float x) rows) = section_outer part each section (index + 1) rows
section_outer part each section index (item (boolean x) rows) = section_outer part each section (index + 1) rows
section_outer part each section index (item (datetime x) rows) = section_outer part each section (index + 1) rows
section_outer part each section index (item (array x) rows) = section_outer part each section (index + 1) rows

parts_outer : (tops : TopValues) → IsOuter (parts_of tops)
unfolding parts_of
parts_outer tops =
    bind_outer _ _ (section_outer zone_of zone_outer Zone 0 tops.zones)
    (λ zones. bind_outer _ _ (section_outer segment_of segment_outer Segment 0 tops.segments)
    (λ segments. bind_outer _ _ (section_outer junction_of junction_outer Junction 0 tops.junctions)
    (λ junctions. bind_outer _ _ (section_outer join_of join_outer Join 0 tops.joins) (λ joins. tt))))

tops_outer : (top : RowValue) → IsOuter (tops_of top)
unfolding tops_of
tops_outer top =
    then_outer (only_known top) _ (known_outer top)
    (bind_outer _ _ (under_outer rows_at rows_outer top (codes "zone"))
    (λ zones. bind_outer _ _ (under_outer rows_at rows_outer top (codes "segment"))
    (λ segments. bind_outer _ _ (under_outer rows_at rows_outer top (codes "junction"))
    (λ junctions. bind_outer _ _ (under_outer rows_at rows_outer top (codes "join"))
    (λ joins. bind_outer _ _ (under_outer table_at table_outer top (codes "place")) (λ place. tt))))))

keys_outer : (is_known : List ℕ → Bool) (members : Members) → IsOuter (keys_pass is_known members)
keys_outer is_known no_members = tt
keys_outer is_known (member key value members) =
    let known = unless (is_known key) (Range (place_key key)) in
    let texts = unless (is_texts value) (Kind (place_key key)) in
    then_outer (known >> texts) _ (then_outer known texts (unless_outer (is_known key) (Range (place_key key)) refl) (unless_outer (is_texts value) (Kind (place_key key)) refl)) (keys_outer is_known members)

place_outer : (zones : List ZonePart) (place : Option Members) → IsOuter (place_passes zones place)
place_outer zones None = tt
place_outer zones (Some members) = keys_outer (is_zone zones) members

refusal_outer : (fault : TrapFault) → is_inner (refusal_of fault) ≡ false
refusal_outer faults.NoZone = refl
refusal_outer (faults.TooMany what) = refl
refusal_outer (faults.Double name) = refl
refusal_outer (faults.Capacity zone) = refl
refusal_outer (faults.Length segment) = refl
refusal_outer (faults.Load segment) = refl
refusal_outer (faults.Unknown row) = refl
refusal_outer (faults.Pair row) = refl
refusal_outer (faults.EndTaken row) = refl
refusal_outer (faults.Arms junction) = refl
refusal_outer faults.NoMemory = refl

built_outer : {X : Type 0} (built : Result X TrapFault) → IsOuter (as_refusal built)
built_outer (Ok x) = tt
built_outer (Err fault) = refusal_outer fault

file_outer : (members : Members) → IsOuter (file_of members)
unfolding file_of
file_outer members =
    bind_outer _ _ (tops_outer (top_row members))
    (λ tops. bind_outer _ _ (parts_outer tops)
    (λ parts. then_outer (place_passes parts.zones tops.place) _ (place_outer parts.zones tops.place)
    (bind_outer _ _ (built_outer (build_of parts)) (λ trap. tt))))

trap_outer : (bytes : List ℕ) → IsOuter (trap_of bytes)
unfolding trap_of
trap_outer bytes = bind_outer _ _ (or_outer (table_of bytes) Toml refl) file_outer

refused : (answer : Result FileValue TrapText) (refusal : TrapText) → IsOuter answer → answer ≡ Err refusal → is_inner refusal ≡ false
refused answer refusal h e = subst (λ (a : Result FileValue TrapText). IsOuter a) e h

pub memory_apart : (bytes : List ℕ) → trap_of bytes ≡ Err (Trap faults.NoMemory) → ⊥
memory_apart bytes e = false≢true (sym (refused (trap_of bytes) (Trap faults.NoMemory) (trap_outer bytes) e))
