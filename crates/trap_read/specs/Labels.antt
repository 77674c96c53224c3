-- The table `place`: the labels of qubits, by the names of zones.
use Rattle.std.specs.Prelude.{◌≡◌, ℕ, Bool, List, [], map, Option, Some, None, Result, Ok, if◌then◌else◌}
use Rattle.std.specs.Option.{option_map}
use Rattle.std.specs.List.{list_any}
use Rattle.std.specs.Str.{bytes_eq}
use Rattle.std.specs.Borrow.{Bor}
use Rattle.std.specs.Ordering.{nat_cmp}
use Rattle.std.specs.Cmp.Lexicographic.{slice_cmp}
use Rattle.std.specs.BTreeSet.{BTreeSet, contains_by}
use Rattle.toml.specs.Data.{Members, no_members, member}
use Rattle.trap_parts.specs.declared.parts.ZonePart.{ZonePart}
use Rattle.trap_read.specs.declared.fault.Section.TheVariants.{Place}
use Rattle.trap_read.specs.declared.fault.KeyAt.{KeyAt}
use Rattle.trap_read.specs.declared.fault.TrapText.{TrapText}
use Rattle.trap_read.specs.declared.fault.TrapText.TheVariants.{Kind, Range}
use Rattle.trap_read.specs.Answers.{◌>>◌, unless}
use Rattle.trap_read.specs.Keys.{is_texts, texts_in}

abbrev pub place_key : List ℕ → KeyAt
place_key key = record { section = Place; row = 0; key = key }

abbrev pub is_zone : List ZonePart → List ℕ → Bool
is_zone zones name = list_any (λ zone. bytes_eq zone.name name) zones

-- each key is a known name, and an array of strings is under it
abbrev pub keys_pass : (List ℕ → Bool) → Members → Result (Unit {0}) TrapText
keys_pass is_known no_members = Ok tt
keys_pass is_known (member key value members) =
    unless (is_known key) (Range (place_key key)) >> unless (is_texts value) (Kind (place_key key))
    >> keys_pass is_known members

abbrev pub place_passes : List ZonePart → Option Members → Result (Unit {0}) TrapText
place_passes zones None = Ok tt
place_passes zones (Some members) = keys_pass (is_zone zones) members

-- the labels under a name, none where it has no key
abbrev pub labels_under : List ℕ → Members → List (List ℕ)
labels_under name no_members = []
labels_under name (member key value members) =
    if bytes_eq key name then texts_in value else labels_under name members

-- a list for each zone, in the order of the zones
abbrev pub labels_of : List ZonePart → Members → List (List (List ℕ))
labels_of zones members = map (λ zone. labels_under zone.name members) zones

abbrev pub given_of : List ZonePart → Option Members → Option (List (List (List ℕ)))
given_of zones place = option_map (labels_of zones) place

-- ---- for private functions

-- the name is in the set
unfoldable pub has_name : BTreeSet (Bor (List ℕ)) → List ℕ → Bool
has_name names name = contains_by (λ known. slice_cmp nat_cmp name known.now) names

-- the set has the names of the zones
abbrev pub AreNamesOf : List ZonePart → BTreeSet (Bor (List ℕ)) → Type 0
AreNamesOf zones names = (name : List ℕ) → has_name names name ≡ is_zone zones name
