-- The tables of a trap file, their keys, and what may be under a key.
use Rattle.std.specs.Prelude.{ℕ, ◌-◌, nat_le, pos, negsuc, codes, Bool, true, false, not, ◌&&◌, ◌||◌, List, [], ◌∷◌, length, take, drop, find, Option, Some, None, Result, Ok, Err, if◌then◌else◌}
use Rattle.std.specs.Option.{option_map, option_and_then, ok_or}
use Rattle.std.specs.List.{list_any}
use Rattle.std.specs.Str.{bytes_eq}
use Rattle.toml.specs.Data.{Data, string, integer, array, table, Items, no_items, item, Members, no_members, member, get_member}
use Rattle.toml.specs.View.{table_view}
use Rattle.qc_base.specs.declared.ids.End.{End}
use Rattle.qc_base.specs.declared.ids.End.TheVariants.{A, B}
use Rattle.trap_parts.specs.declared.parts.EndName.{EndName}
use Rattle.trap_parts.specs.declared.parts.JoinPart.{JoinPart}
use Rattle.trap_parts.specs.Names.{is_name}
use Rattle.trap_read.specs.declared.fault.Section.{Section}
use Rattle.trap_read.specs.declared.fault.Section.TheVariants.{Top, Zone, Segment, Junction, Join, Place}
use Rattle.trap_read.specs.declared.fault.KeyAt.{KeyAt}
use Rattle.trap_read.specs.declared.fault.TrapText.{TrapText}
use Rattle.trap_read.specs.declared.fault.TrapText.TheVariants.{Extra, Missing, Kind, Range}
use Rattle.trap_read.specs.declared.row.Row.{Row}
use Rattle.trap_read.specs.declared.abilities.Abilities.{Abilities}
use Rattle.trap_read.specs.Answers.{◌>>◌, unless}

-- A table of the file: its section, its number among the rows of the section, which is 0 for a table that is
-- no row.
pub record RowValue : Type 0 where
  pub section : Section
  pub number : ℕ
  pub members : Members

abbrev pub row_view : Row → RowValue
row_view row = record { section = row.section; number = row.number; members = table_view row.table.now }

abbrev pub key_of : RowValue → List ℕ → KeyAt
key_of row key = record { section = row.section; row = row.number; key = key }

-- what a test says of the value under a key
abbrev pub under : {X : Type 0} → RowValue → List ℕ → (KeyAt → Option Data → X) → X
under row key test = test (key_of row key) (get_member key row.members)

-- ---- unknown keys

-- the keys of a table, which are in the order of their bytes
abbrev pub keys_of : Members → List (List ℕ)
keys_of no_members = []
keys_of (member key value members) = key ∷ keys_of members

-- the section has such a key; the keys of `place` are names of zones and are judged with those
abbrev pub has_key : Section → List ℕ → Bool
has_key Top key =
    bytes_eq key (codes "zone") || bytes_eq key (codes "segment") || bytes_eq key (codes "junction")
    || bytes_eq key (codes "join") || bytes_eq key (codes "place")
has_key Zone key =
    bytes_eq key (codes "name") || bytes_eq key (codes "capacity") || bytes_eq key (codes "can")
has_key Segment key =
    bytes_eq key (codes "name") || bytes_eq key (codes "slots") || bytes_eq key (codes "load")
has_key Junction key = bytes_eq key (codes "name")
has_key Join key = bytes_eq key (codes "ends")
has_key Place key = true

-- the least key that its section doesn't have
abbrev pub extra_key : RowValue → Option (List ℕ)
extra_key row = find (λ key. not (has_key row.section key)) (keys_of row.members)

abbrev pub none_extra : RowValue → Option (List ℕ) → Result (Unit {0}) TrapText
none_extra row None = Ok tt
none_extra row (Some key) = Err (Extra (key_of row key))

-- the table has known keys alone
unfoldable pub only_known : RowValue → Result (Unit {0}) TrapText
only_known row = none_extra row (extra_key row)

-- ---- names and numbers

abbrev pub name_at : KeyAt → Option Data → Result (List ℕ) TrapText
name_at key None = Err (Missing key)
name_at key (Some (string text)) = if is_name text then Ok text else Err (Range key)
name_at key (Some _) = Err (Kind key)

-- an integer from 0 to 65,535
abbrev pub number_at : KeyAt → Option Data → Result ℕ TrapText
number_at key None = Err (Missing key)
number_at key (Some (integer (pos number))) = if nat_le number 65535 then Ok number else Err (Range key)
number_at key (Some (integer (negsuc number))) = Err (Range key)
number_at key (Some _) = Err (Kind key)

-- ---- arrays of strings

abbrev pub all_items : (Data → Bool) → Items → Bool
all_items test no_items = true
all_items test (item value values) = test value && all_items test values

abbrev pub is_string : Data → Bool
is_string (string text) = true
is_string _ = false

-- an array of strings
abbrev pub is_texts : Data → Bool
is_texts (array values) = all_items is_string values
is_texts _ = false

abbrev pub strings_of : Items → List (List ℕ)
strings_of no_items = []
strings_of (item (string text) values) = text ∷ strings_of values
strings_of (item value values) = strings_of values

-- the strings of an array
abbrev pub texts_in : Data → List (List ℕ)
texts_in (array values) = strings_of values
texts_in _ = []

-- ---- abilities

abbrev pub is_listed : List ℕ → List (List ℕ) → Bool
is_listed word words = list_any (bytes_eq word) words

abbrev pub is_ability : List ℕ → Bool
is_ability word = bytes_eq word (codes "one") || bytes_eq word (codes "two") || bytes_eq word (codes "read")

-- each is an ability, and none occurs twice
abbrev pub are_abilities : List (List ℕ) → Bool
are_abilities [] = true
are_abilities (word ∷ words) = (is_ability word && not (is_listed word words)) && are_abilities words

abbrev pub abilities : List (List ℕ) → Abilities
abilities words = record {
  one = is_listed (codes "one") words;
  two = is_listed (codes "two") words;
  read = is_listed (codes "read") words;
}

-- abilities, or nothing, which is none of them
abbrev pub can_at : KeyAt → Option Data → Result Abilities TrapText
can_at key None = Ok (abilities [])
can_at key (Some value) =
    unless (is_texts value) (Kind key) >> unless (are_abilities (texts_in value)) (Range key)
    >> Ok (abilities (texts_in value))

-- ---- ends

-- what is before the suffix, where the text ends with it
abbrev pub before : List ℕ → List ℕ → Option (List ℕ)
before suffix text =
    let front = length text - length suffix in
    if bytes_eq (drop front text) suffix then Some (take front text) else None

abbrev pub named : Option End → List ℕ → Option EndName
named end name = if is_name name then Some (record { name = name; end = end }) else None

-- a name and an end
abbrev pub dotted : End → List ℕ → List ℕ → Option EndName
dotted end suffix text = option_and_then (named (Some end)) (before suffix text)

abbrev pub or_else : {X : Type 0} → Option X → Option X → Option X
or_else (Some x) other = Some x
or_else None other = other

-- a name alone, or a name, a dot and `a` or `b`
abbrev pub end_named : List ℕ → Option EndName
end_named text = or_else (named None text) (or_else (dotted A (codes ".a") text) (dotted B (codes ".b") text))

abbrev pub joined : EndName → EndName → JoinPart
joined first second = record { first = first; second = second }

-- two ends
abbrev pub ends_in : List (List ℕ) → Option JoinPart
ends_in (first ∷ second ∷ []) =
    option_and_then (λ end. option_map (joined end) (end_named second)) (end_named first)
ends_in _ = None

abbrev pub ends_at : KeyAt → Option Data → Result JoinPart TrapText
ends_at key None = Err (Missing key)
ends_at key (Some value) = unless (is_texts value) (Kind key) >> ok_or (ends_in (texts_in value)) (Range key)

-- ---- tables

abbrev pub is_table : Data → Bool
is_table (table fields) = true
is_table _ = false

-- an array of tables, or nothing
abbrev pub rows_at : KeyAt → Option Data → Result Items TrapText
rows_at key None = Ok no_items
rows_at key (Some (array values)) = unless (all_items is_table values) (Kind key) >> Ok values
rows_at key (Some _) = Err (Kind key)

-- a table, or nothing
abbrev pub table_at : KeyAt → Option Data → Result (Option Members) TrapText
table_at key None = Ok None
table_at key (Some (table members)) = Ok (Some members)
table_at key (Some _) = Err (Kind key)
