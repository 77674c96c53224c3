-- How places are written, and which place a text is.
use Rattle.std.proofs.Common.{◌≡◌, ◌≢◌, ◌==◌, ℕ, ◌+◌, ◌-◌, ◌<◌, ◌≤◌, ◌^◌, Bool, true, false, ◌&&◌, List, [], ◌∷◌, ◌++◌, length, get_or, find, Option, None, Some, zero, suc, refl, sym, ap, ◌∙◌, arith, slice_get, inl, inr, eqb, leb, append_assoc, codes, map, length-append}
use Rattle.std.specs.Fmt.{decimal}
use Rattle.std.specs.List.{AllPairs, range_with_len, list_all, list_any, position_from}
use Rattle.std.proofs.lemmas.List.Folds.{list_any_at, list_any_none}
use Rattle.std.specs.Option.{option_map, MatchOption}
use Rattle.std.specs.Str.{bytes_eq}
use Rattle.std.proofs.lemmas.Bool.{cases_lt, cases_eq, cases_order, cases_Bool, cond-true, cond-false, and_parts, or_parts, or_right, both_ways, eq-eqb, ne_eqb, false_from_ne_true}
use Rattle.std.proofs.lemmas.Fmt.{decimal_injective}
use Rattle.std.proofs.lemmas.List.{get_or_append_left, get_or-append-add, get_or_default, length-map}
use Rattle.std.proofs.lemmas.Option.{none-some, same_Some, slice_get_past, slice_get_read, slice_get_cases, slice_get-map, get_or_from_slice_get}
use Rattle.std.proofs.lemmas.Slice.Eq.{bytes_eq-Decides}
use Rattle.qc_base.specs.declared.ids.PlaceId.{PlaceId}
use Rattle.trap_parts.specs.declared.parts.SegmentPart.{SegmentPart}
use Rattle.trap_parts.specs.declared.parts.ZonePart.{ZonePart}
use Rattle.trap_model.specs.declared.slot.Slot.{Slot}
use Rattle.trap_parts.specs.Names.{is_name, is_word, begins_with_letter}
use Rattle.qc_base.specs.Spelling.{IsFree}
use Rattle.trap_model.specs.Texts.{IsSlotText, IsNoSlotText}
use Rattle.trap_parts.specs.Parts.{TrapValue, names_of}
use Rattle.trap_model.specs.Trap.{slot, place_count, place_text, place_named}
use Rattle.trap_parts.specs.Joins.{firsts_from, first_slot, slots_of, zone_named, segment_named}
use Rattle.trap_parts.specs.Build.{IsTrap}
use Rattle.trap_parts.proofs.Known.{position_at}
use Rattle.trap_model.proofs.Rows.{row_of, length-firsts_from}
use Rattle.trap_model.proofs.Slots.{IsSlotRead, slot_place, slot_at_row}
use Rattle.trap_model.proofs.Moves.{no_slot_past, slot_of_place}

-- a slot is written by its segment's name and its number
pub text_of_slot : (trap : TrapValue) (place : ℕ) (s : Slot) (part : SegmentPart) → length trap.zones ≤ place → IsSlotRead trap place s → part ≡ get_or trap.segments s.segment part → place_text trap place ≡ part.name ++ codes "." ++ decimal s.index
text_of_slot trap place s part past read is =
    let none = slice_get_past trap.zones place past in
    let there = slice_get_read trap.segments (length trap.segments) s.segment part refl read.there is in
    rw (none, read.is, there) refl

-- what is no place is written as nothing
pub text_past : (trap : TrapValue) (place : ℕ) → place_count trap ≤ place → place_text trap place ≡ []
text_past trap place h = rw (slice_get_past trap.zones place (omega arith), no_slot_past trap place h) refl

word_is_no_dot : (byte : ℕ) → is_word byte ≡ true → eqb byte 46 ≡ false
word_is_no_dot byte w =
    elim (cases_eq byte 46) [
      | inl dot ↦ absurd (both_ways (is_word 46) refl (rw dot at w))
      | inr other ↦ ne_eqb byte 46 other
    ]

-- a dot is in the text
abbrev pub has_dot : List ℕ → Bool
has_dot text = list_any (λ byte. byte == 46) text

words_have_no_dot : (bytes : List ℕ) → list_all is_word bytes ≡ true → has_dot bytes ≡ false
words_have_no_dot [] w = refl
words_have_no_dot (byte ∷ bytes) w =
    let parts = and_parts (is_word byte) (list_all is_word bytes) w in
    rw (word_is_no_dot byte parts.0) (words_have_no_dot bytes parts.1)

-- a name of a trap has no dot
pub name_has_no_dot : (name : List ℕ) → is_name name ≡ true → has_dot name ≡ false
name_has_no_dot name n = words_have_no_dot name (and_parts (begins_with_letter name && leb (length name) 16) (list_all is_word name) n).1

-- the first dot parts a text in one way
pub dot_parts : (a b c d : List ℕ) → has_dot a ≡ false → has_dot c ≡ false → a ++ 46 ∷ b ≡ c ++ 46 ∷ d → (a ≡ c) × (b ≡ d)
dot_parts [] b [] d p q e = (refl, cc)
dot_parts [] b (y ∷ c) d p q e =
    let first : 46 ≡ y = cc in
    absurd (both_ways (eqb y 46) (or_parts (eqb y 46) (has_dot c) q).0 (eq-eqb y 46 (sym first)))
dot_parts (x ∷ a) b [] d p q e =
    let first : x ≡ 46 = cc in
    absurd (both_ways (eqb x 46) (or_parts (eqb x 46) (has_dot a) p).0 (eq-eqb x 46 first))
dot_parts (x ∷ a) b (y ∷ c) d p q e =
    let first : x ≡ y = cc in
    let tail : a ++ 46 ∷ b ≡ c ++ 46 ∷ d = cc in
    let rest = dot_parts a b c d (or_parts (eqb x 46) (has_dot a) p).1 (or_parts (eqb y 46) (has_dot c) q).1 tail in
    (rw (first, rest.0) refl, rest.1)

pub dot_within : (a b : List ℕ) → has_dot (a ++ 46 ∷ b) ≡ true
dot_within [] b = refl
dot_within (x ∷ a) b = or_right (eqb x 46) (has_dot (a ++ 46 ∷ b)) (dot_within a b)

-- where nothing occurs twice, a place is known by what is there
pub unique : {X : Type 0} (xs : List X) (i j : ℕ) (d : X) → AllPairs (λ a b. a ≢ b) xs → i < length xs → j < length xs → get_or xs i d ≡ get_or xs j d → i ≡ j
unique xs i j d all p q e =
    elim (cases_order i j) [
      | inl same ↦ same
      | inr side ↦ elim side [ inl below ↦ absurd (all i j d below q e) | inr above ↦ absurd (all j i d above p (sym e)) ]
    ]

-- the names of zones and of segments among all names
pub zone_name : (trap : TrapValue) (k : ℕ) (zone : ZonePart) (d : List ℕ) → k < length trap.zones → slice_get trap.zones k ≡ Some zone → get_or (names_of trap) k d ≡ zone.name
zone_name trap k zone d h is =
    let zones = map (λ (z : ZonePart). z.name) trap.zones in
    let segments = map (λ (s : SegmentPart). s.name) trap.segments in
    let len = length-map trap.zones (λ (z : ZonePart). z.name) in
    get_or_append_left (zones ++ segments) trap.junctions d k (omega (arith, length-append zones segments, len)) ∙ get_or_append_left zones segments d k (omega (arith, len))
    ∙ get_or_from_slice_get zones k zone.name d (slice_get-map (λ (z : ZonePart). z.name) trap.zones k ∙ ap (λ o. option_map (λ (z : ZonePart). z.name) o) is)

pub segment_name : (trap : TrapValue) (k : ℕ) (part : SegmentPart) (d : List ℕ) → k < length trap.segments → slice_get trap.segments k ≡ Some part → get_or (names_of trap) (length trap.zones + k) d ≡ part.name
segment_name trap k part d h is =
    let zones = map (λ (z : ZonePart). z.name) trap.zones in
    let segments = map (λ (s : SegmentPart). s.name) trap.segments in
    let len = length-map trap.zones (λ (z : ZonePart). z.name) in
    let count = length-map trap.segments (λ (s : SegmentPart). s.name) in
    let place : length trap.zones + k ≡ length zones + k = omega (arith, len) in
    rw place (get_or_append_left (zones ++ segments) trap.junctions d (length zones + k) (omega (arith, length-append zones segments, count)) ∙ get_or-append-add zones segments k d
    ∙ get_or_from_slice_get segments k part.name d (slice_get-map (λ (s : SegmentPart). s.name) trap.segments k ∙ ap (λ o. option_map (λ (s : SegmentPart). s.name) o) is))

names_count : (trap : TrapValue) → length (names_of trap) ≡ length trap.zones + length trap.segments + length trap.junctions
names_count trap =
    let zones = map (λ (z : ZonePart). z.name) trap.zones in
    let segments = map (λ (s : SegmentPart). s.name) trap.segments in
    omega (arith, length-append (zones ++ segments) trap.junctions, length-append zones segments, length-map trap.zones (λ (z : ZonePart). z.name), length-map trap.segments (λ (s : SegmentPart). s.name))

-- a slot's place, as its text has it
pub record IsWritten (trap : TrapValue) (place : ℕ) : Type 0 where
  pub segment : ℕ
  pub index : ℕ
  pub part : SegmentPart
  pub there : segment < length trap.segments
  pub below : index < slots_of trap segment
  pub at : first_slot trap segment + index ≡ place
  pub is : slice_get trap.segments segment ≡ Some part
  pub text : place_text trap place ≡ part.name ++ 46 ∷ decimal index

pub slot_written_so : (trap : TrapValue) (place : ℕ) → length trap.zones ≤ place → place < place_count trap → IsWritten trap place
slot_written_so trap place past h =
    let p = slot_place trap place past h in
    elim (slice_get_cases trap.segments p.segment).1 [
      | inl there ↦
          let part = there.0 in
          record {
            segment = p.segment;
            index = p.index;
            part = part;
            there = p.there;
            below = p.below;
            at = p.at;
            is = there.2;
            text = rw (slice_get_past trap.zones place past, slot_of_place trap place past p, there.2) (append_assoc part.name (46 ∷ []) (decimal p.index));
          }
      | inr past ↦ absurd (omega (arith, past.0, p.there))
    ]

pub record IsZoneText (trap : TrapValue) (place : ℕ) : Type 0 where
  pub zone : ZonePart
  pub is : slice_get trap.zones place ≡ Some zone
  pub text : place_text trap place ≡ zone.name

pub zone_written_so : (trap : TrapValue) (place : ℕ) → place < length trap.zones → IsZoneText trap place
zone_written_so trap place h =
    elim (slice_get_cases trap.zones place).1 [
      | inl there ↦ record { zone = there.0; is = there.2; text = rw there.2 refl }
      | inr past ↦ absurd (omega (arith, past.0))
    ]

zone_no_dot : (trap : TrapValue) (place : ℕ) (zone : ZonePart) → IsTrap trap → place < length trap.zones → slice_get trap.zones place ≡ Some zone → has_dot zone.name ≡ false
zone_no_dot trap place zone t h is =
    let at = zone_name trap place zone [] h is in
    name_has_no_dot zone.name (rw at at (t.words place [] (omega (arith, names_count trap))))

pub segment_no_dot : (trap : TrapValue) (k : ℕ) (part : SegmentPart) → IsTrap trap → k < length trap.segments → slice_get trap.segments k ≡ Some part → has_dot part.name ≡ false
segment_no_dot trap k part t h is =
    let at = segment_name trap k part [] h is in
    name_has_no_dot part.name (rw at at (t.words (length trap.zones + k) [] (omega (arith, names_count trap))))

-- segments of one name are one
pub same_segment_name : (trap : TrapValue) (s r : ℕ) (part other : SegmentPart) → IsTrap trap → s < length trap.segments → r < length trap.segments → slice_get trap.segments s ≡ Some part → slice_get trap.segments r ≡ Some other → part.name ≡ other.name → s ≡ r
same_segment_name trap s r part other t p q is was e =
    let same = segment_name trap s part [] p is ∙ e ∙ sym (segment_name trap r other [] q was) in
    let one = unique (names_of trap) (length trap.zones + s) (length trap.zones + r) [] t.names (omega (arith, names_count trap)) (omega (arith, names_count trap)) same in
    omega (arith, one)

small_slots : (trap : TrapValue) (s : ℕ) → IsTrap trap → s < length trap.segments → slots_of trap s ≤ 16
small_slots trap s t h = (row_of trap s t h).few

-- places that are written alike are one
pub texts_differ : (trap : TrapValue) (p q : ℕ) → IsTrap trap → p < place_count trap → q < place_count trap → place_text trap p ≡ place_text trap q → p ≡ q
texts_differ trap p q t hp hq e =
    elim (cases_lt p (length trap.zones)) [
      | inl zp ↦
          let a = zone_written_so trap p zp in
          elim (cases_lt q (length trap.zones)) [
            | inl zq ↦
                let b = zone_written_so trap q zq in
                let same = zone_name trap p a.zone [] zp a.is ∙ sym a.text ∙ e ∙ b.text ∙ sym (zone_name trap q b.zone [] zq b.is) in
                unique (names_of trap) p q [] t.names (omega (arith, names_count trap)) (omega (arith, names_count trap)) same
            | inr sq ↦
                let b = slot_written_so trap q sq hq in
                let alike : a.zone.name ≡ b.part.name ++ 46 ∷ decimal b.index = sym a.text ∙ e ∙ b.text in
                absurd (both_ways (has_dot a.zone.name) (zone_no_dot trap p a.zone t zp a.is) (rw alike (dot_within b.part.name (decimal b.index))))
          ]
      | inr sp ↦
          let a = slot_written_so trap p sp hp in
          elim (cases_lt q (length trap.zones)) [
            | inl zq ↦
                let b = zone_written_so trap q zq in
                let alike : b.zone.name ≡ a.part.name ++ 46 ∷ decimal a.index = sym b.text ∙ sym e ∙ a.text in
                absurd (both_ways (has_dot b.zone.name) (zone_no_dot trap q b.zone t zq b.is) (rw alike (dot_within a.part.name (decimal a.index))))
            | inr sq ↦
                let b = slot_written_so trap q sq hq in
                let parts = dot_parts a.part.name (decimal a.index) b.part.name (decimal b.index) (segment_no_dot trap a.segment a.part t a.there a.is) (segment_no_dot trap b.segment b.part t b.there b.is) (sym a.text ∙ e ∙ b.text) in
                let segment = same_segment_name trap a.segment b.segment a.part b.part t a.there b.there a.is b.is parts.0 in
                let index = decimal_injective a.index b.index (omega (arith, a.below, small_slots trap a.segment t a.there)) (omega (arith, b.below, small_slots trap b.segment t b.there)) parts.1 in
                sym a.at ∙ rw (segment, index) b.at
          ]
    ]

find_one : (test : ℕ → Bool) (k first n : ℕ) → first ≤ k → k < first + n → test k ≡ true → ((j : ℕ) → j < first + n → test j ≡ true → j ≡ k) → find test (range_with_len first n) ≡ Some k
find_one test k first zero low high here only = absurd (omega arith)
find_one test k first (suc n) low high here only =
    elim (cases_Bool (test first)) [
      | inl now ↦ cond-true (test first) (Some first) (find test (range_with_len (first + 1) n)) now ∙ ap (λ x. Some x) (only first (omega arith) now)
      | inr not ↦
          let later : first ≡ k → ⊥ = λ same. both_ways (test first) not (rw same here) in
          cond-false (test first) (Some first) (find test (range_with_len (first + 1) n)) not ∙ find_one test k (first + 1) n (omega (arith, later)) (omega arith) here (λ j h t. only j (omega arith) t)
    ]

find_no : (test : ℕ → Bool) (first n : ℕ) → ((j : ℕ) → j < first + n → test j ≡ false) → find test (range_with_len first n) ≡ None
find_no test first zero none = refl
find_no test first (suc n) none =
    cond-false (test first) (Some first) (find test (range_with_len (first + 1) n)) (none first (omega arith)) ∙ find_no test (first + 1) n (λ j h. none j (omega arith))

-- the place that is written so is the one of that text
pub named_is : (trap : TrapValue) (k : ℕ) (text : List ℕ) → IsTrap trap → k < place_count trap → place_text trap k ≡ text → place_named trap text ≡ Some k
named_is trap k text t h is =
    let test = λ (place : ℕ). bytes_eq (place_text trap place) text in
    let here : test k ≡ true = (bytes_eq-Decides (place_text trap k) text).1 is in
    find_one test k 0 (place_count trap) (omega arith) (omega arith) here
    (λ j below same. texts_differ trap j k t (omega arith) h ((bytes_eq-Decides (place_text trap j) text).0 same ∙ sym is))

pub named_none : (trap : TrapValue) (text : List ℕ) → ((place : ℕ) → place < place_count trap → place_text trap place ≢ text) → place_named trap text ≡ None
named_none trap text none =
    find_no (λ place. bytes_eq (place_text trap place) text) 0 (place_count trap)
    (λ j below. false_from_ne_true (bytes_eq (place_text trap j) text) (λ same. none j (omega arith) ((bytes_eq-Decides (place_text trap j) text).0 same)))

position_true : {X : Type 0} (p : X → Bool) (i : ℕ) (xs : List X) (k : ℕ) (d : X) → position_from p i xs ≡ Some k → (i ≤ k) × (p (get_or xs (k - i) d) ≡ true)
position_true p i [] k d e = absurd (none-some k e)
position_true p i (x ∷ xs) k d e =
    elim (cases_Bool (p x)) [
      | inl now ↦
          let same : i ≡ k = same_Some i k (sym (cond-true (p x) (Some i) (position_from p (i + 1) xs) now) ∙ e) in
          let zeroth : k - i ≡ 0 = omega (arith, same) in
          (omega (arith, same), rw zeroth now)
      | inr not ↦
          let rest = position_true p (i + 1) xs k d (sym (cond-false (p x) (Some i) (position_from p (i + 1) xs) not) ∙ e) in
          let next : k - i ≡ suc (k - (i + 1)) = omega (arith, rest.0) in
          (omega (arith, rest.0), rw next rest.1)
    ]

not_first : {X : Type 0} (p : X → Bool) (i : ℕ) (x : X) (xs : List X) → position_from p i (x ∷ xs) ≡ None → (p x ≡ false) × (position_from p (i + 1) xs ≡ None)
not_first p i x xs e =
    elim (cases_Bool (p x)) [
      | inl now ↦ absurd (none-some i (sym (sym (cond-true (p x) (Some i) (position_from p (i + 1) xs) now) ∙ e)))
      | inr not ↦ (not, sym (cond-false (p x) (Some i) (position_from p (i + 1) xs) not) ∙ e)
    ]

position_false : {X : Type 0} (p : X → Bool) (i : ℕ) (xs : List X) → position_from p i xs ≡ None → (n : ℕ) (d : X) → n < length xs → p (get_or xs n d) ≡ false
position_false p i [] e n d h = absurd (omega arith)
position_false p i (x ∷ xs) e zero d h = (not_first p i x xs e).0
position_false p i (x ∷ xs) e (suc n) d h = position_false p (i + 1) xs (not_first p i x xs e).1 n d (omega arith)

-- the part that is found by a name has it
pub segment_found : (trap : TrapValue) (name : List ℕ) (s : ℕ) (part : SegmentPart) → segment_named trap name ≡ Some s → part ≡ get_or trap.segments s part → part.name ≡ name
segment_found trap name s part e read =
    let p = λ (segment : SegmentPart). bytes_eq segment.name name in
    let found = (position_true p 0 trap.segments s part e).1 in
    let same : s - 0 ≡ s = omega arith in
    (bytes_eq-Decides part.name name).0 (rw (same, ← read) at found)

pub zone_found : (trap : TrapValue) (name : List ℕ) (k : ℕ) → zone_named trap name ≡ Some k → (k < length trap.zones) × (place_text trap k ≡ name)
zone_found trap name k e =
    let p = λ (zone : ZonePart). bytes_eq zone.name name in
    let inside = position_at p trap.zones k e in
    let w = zone_written_so trap k inside in
    let same : k - 0 ≡ k = omega arith in
    let found = (position_true p 0 trap.zones k w.zone e).1 in
    let at = get_or_from_slice_get trap.zones k w.zone w.zone w.is in
    (inside, w.text ∙ (bytes_eq-Decides w.zone.name name).0 (rw (same, at) at found))

pub zone_not_found : (trap : TrapValue) (name : List ℕ) → zone_named trap name ≡ None → (k : ℕ) → k < length trap.zones → place_text trap k ≢ name
zone_not_found trap name e k h same =
    let w = zone_written_so trap k h in
    let p = λ (zone : ZonePart). bytes_eq zone.name name in
    let none = rw (get_or_from_slice_get trap.zones k w.zone w.zone w.is) at (position_false p 0 trap.zones e k w.zone h) in
    both_ways (bytes_eq w.zone.name name) none ((bytes_eq-Decides w.zone.name name).1 (sym w.text ∙ same))

-- a word without a dot, by either definition
pub free_without : (word : List ℕ) → has_dot word ≡ false → IsFree 46 word
free_without word dotless k d h same = both_ways (has_dot word) dotless (list_any_at (λ byte. byte == 46) word k d h (eq-eqb (get_or word k d) 46 same))

pub without_free : (word : List ℕ) → IsFree 46 word → has_dot word ≡ false
without_free word free = list_any_none (λ byte. byte == 46) word (λ k d h. ne_eqb (get_or word k d) 46 (free k d h))

-- where no word without a dot is before a dot, no slot
pub no_slot_without_dot : (trap : TrapValue) (text : List ℕ) → IsTrap trap → ((word rest : List ℕ) → IsFree 46 word → text ≡ word ++ 46 ∷ rest → ⊥) → IsNoSlotText trap text
no_slot_without_dot trap text t none place past h e =
    let w = slot_written_so trap place past h in
    none w.part.name (decimal w.index) (free_without w.part.name (segment_no_dot trap w.segment w.part t w.there w.is)) (sym e ∙ w.text)

-- a slot's text has the segment's name before the first dot, and the number after it
pub record IsCut (trap : TrapValue) (name number : List ℕ) (place : ℕ) : Type 0 where
  pub written : IsWritten trap place
  pub named : written.part.name ≡ name
  pub numbered : decimal written.index ≡ number

pub cut_slot : (trap : TrapValue) (text name number : List ℕ) (place : ℕ) → IsTrap trap → text ≡ name ++ 46 ∷ number → IsFree 46 name → length trap.zones ≤ place → place < place_count trap → place_text trap place ≡ text → IsCut trap name number place
cut_slot trap text name number place t cut free past there e =
    let w = slot_written_so trap place past there in
    let parts = dot_parts w.part.name (decimal w.index) name number (segment_no_dot trap w.segment w.part t w.there w.is) (without_free name free) (sym w.text ∙ e ∙ cut) in
    record { written = w; named = parts.0; numbered = parts.1 }

-- without the segment, no slot
pub no_slot_without_segment : (trap : TrapValue) (text name number : List ℕ) → IsTrap trap → text ≡ name ++ 46 ∷ number → IsFree 46 name → segment_named trap name ≡ None → IsNoSlotText trap text
no_slot_without_segment trap text name number t cut free none place past there e =
    let c = cut_slot trap text name number place t cut free past there e in
    let w = c.written in
    let p = λ (segment : SegmentPart). bytes_eq segment.name name in
    let not = rw (get_or_from_slice_get trap.segments w.segment w.part w.part w.is) at (position_false p 0 trap.segments none w.segment w.part w.there) in
    both_ways (bytes_eq w.part.name name) not ((bytes_eq-Decides w.part.name name).1 c.named)

-- without a slot of that number, no slot
pub no_slot_without_number : (trap : TrapValue) (text name number : List ℕ) (s : ℕ) (part : SegmentPart) → IsTrap trap → text ≡ name ++ 46 ∷ number → IsFree 46 name → segment_named trap name ≡ Some s
    → part ≡ get_or trap.segments s part → ((j : ℕ) → j < part.slots → decimal j ≢ number) → IsNoSlotText trap text
no_slot_without_number trap text name number s part t cut free found read none place past there e =
    let c = cut_slot trap text name number place t cut free past there e in
    let w = c.written in
    let p = λ (segment : SegmentPart). bytes_eq segment.name name in
    let inside = position_at p trap.segments s found in
    let is = slice_get_read trap.segments (length trap.segments) s part refl inside read in
    let same = same_segment_name trap w.segment s w.part part t w.there inside w.is is (c.named ∙ sym (segment_found trap name s part found read)) in
    let count : slots_of trap w.segment ≡ part.slots = rw (same, is) refl in
    none w.index (omega (arith, w.below, count)) c.numbered

-- the slot of that segment and number
pub slot_found : (trap : TrapValue) (text name number : List ℕ) (s j : ℕ) (part : SegmentPart) → IsTrap trap → text ≡ name ++ 46 ∷ number → segment_named trap name ≡ Some s
    → part ≡ get_or trap.segments s part → j < part.slots → decimal j ≡ number → IsSlotText trap (first_slot trap s + j) text
slot_found trap text name number s j part t cut found read below numbered =
    let p = λ (segment : SegmentPart). bytes_eq segment.name name in
    let inside = position_at p trap.segments s found in
    let row = row_of trap s t inside in
    let is = slice_get_read trap.segments (length trap.segments) s part refl inside read in
    let count : slots_of trap s ≡ part.slots = rw is refl in
    let few : j < slots_of trap s = omega (arith, below, count) in
    let past : length trap.zones ≤ first_slot trap s + j = omega (arith, row.begins) in
    record {
      after_zones = past;
      there = omega (arith, row.within, few);
      written = rw (slice_get_past trap.zones (first_slot trap s + j) past, slot_at_row trap s j inside few, is, segment_found trap name s part found read, numbered)
          (append_assoc name (46 ∷ []) number ∙ sym cut);
    }

-- the place of a segment's first slot, as it is read
pub first_read : (trap : TrapValue) (firsts : List ℕ) (s first : ℕ) → firsts ≡ firsts_from (length trap.zones) trap.segments → s < length trap.segments → first ≡ get_or firsts s first → first ≡ first_slot trap s
first_read trap firsts s first is h read =
    let len = ap length is ∙ length-firsts_from (length trap.zones) trap.segments in
    read ∙ get_or_default firsts s first 0 (omega (arith, len)) ∙ ap (λ fs. get_or fs s 0) is

-- a slot that is found is a place of 32 bits
pub slot_text_small : (trap : TrapValue) (place : ℕ) (text : List ℕ) → IsTrap trap → IsSlotText trap place text → place < 2 ^ 32
slot_text_small trap place text t s = omega (arith, s.there, t.zones, t.slots)

-- where no zone is written so, the slot is the answer
pub slot_answer : (trap : TrapValue) (text : List ℕ) (answer : Option PlaceId) → IsTrap trap → zone_named trap text ≡ None → MatchOption answer (IsNoSlotText trap text) (λ place. IsSlotText trap place.0 text)
    → option_map (λ place. place.0) answer ≡ place_named trap text
slot_answer trap text (Some place) t zone slot = sym (named_is trap place.0 text t slot.there slot.written)
slot_answer trap text None t zone none =
    sym (named_none trap text (λ place there. elim (cases_lt place (length trap.zones)) [
      | inl front ↦ zone_not_found trap text zone place front
      | inr past ↦ none place past there
    ]))
