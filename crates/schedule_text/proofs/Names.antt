-- The names of places and junctions: none has a gap, and each is one place's or one junction's.
use Rattle.std.proofs.Common.{◌≡◌, ◌≢◌, ℕ, ◌+◌, ◌<◌, ◌≤◌, ◌^◌, ◌⊎◌, Bool, true, ◌&&◌, List, [], ◌∷◌, ◌++◌, length, map, get_or, find, Some, zero, suc, inl, inr, leb, refl, sym, ap, ◌∙◌, arith, slice_get, length-append}
use Rattle.std.specs.Fmt.{decimal}
use Rattle.std.specs.List.{range_with_len, list_all, position_from}
use Rattle.std.specs.Option.{option_map_or}
use Rattle.std.specs.Str.{bytes_eq}
use Rattle.std.proofs.lemmas.Bool.{cases_lt, cases_Bool, cond-true, cond-false, and_parts, false_from_ne_true, both_ways}
use Rattle.std.proofs.lemmas.List.{get_or-append-add, get_or_past, length-map}
use Rattle.std.proofs.lemmas.Option.{none-some, same_Some, slice_get_cases, get_or_from_slice_get}
use Rattle.std.proofs.lemmas.Slice.Eq.{bytes_eq-Decides}
use Rattle.qc_base.specs.Spelling.{IsFree}
use Rattle.qc_base.proofs.Words.{free_decimal}
use Rattle.trap_parts.specs.declared.parts.SegmentPart.{SegmentPart}
use Rattle.trap_parts.specs.declared.parts.ZonePart.{ZonePart}
use Rattle.trap_parts.specs.Names.{is_name, is_word, begins_with_letter}
use Rattle.trap_parts.specs.Parts.{TrapValue, names_of, junction_named}
use Rattle.trap_model.specs.Trap.{place_count, place_text, place_named}
use Rattle.trap_parts.specs.Build.{IsTrap}
use Rattle.trap_parts.specs.Joins.{slots_of}
use Rattle.trap_model.proofs.Rows.{row_of}
use Rattle.trap_model.proofs.PlaceTexts.{unique, zone_name, segment_name, zone_written_so, slot_written_so}
use Rattle.schedule_text.specs.Text.{at}
use Rattle.schedule_text.specs.Progress.{IsGap}
use Rattle.schedule_text.proofs.Lines.{free_append}

-- ---- words have no gap

word_is_no_gap : (byte sign : ℕ) → IsGap sign → is_word byte ≡ true → byte ≢ sign
word_is_no_gap byte sign (inl space) w e = let is : byte ≡ 32 = e ∙ space in both_ways (is_word 32) refl (rw is at w)
word_is_no_gap byte sign (inr feed) w e = let is : byte ≡ 10 = e ∙ feed in both_ways (is_word 10) refl (rw is at w)

words_free : (sign : ℕ) (bytes : List ℕ) → IsGap sign → list_all is_word bytes ≡ true → IsFree sign bytes
words_free sign [] gap w k d h = absurd (omega arith)
words_free sign (byte ∷ bytes) gap w zero d h = word_is_no_gap byte sign gap (and_parts (is_word byte) (list_all is_word bytes) w).0
words_free sign (byte ∷ bytes) gap w (suc k) d h = words_free sign bytes gap (and_parts (is_word byte) (list_all is_word bytes) w).1 k d (omega arith)

pub name_free : (name : List ℕ) (sign : ℕ) → IsGap sign → is_name name ≡ true → IsFree sign name
name_free name sign gap n = words_free sign name gap (and_parts (begins_with_letter name && leb (length name) 16) (list_all is_word name) n).1

-- a gap is no digit's sign
pub gap_is_sign : (sign : ℕ) → IsGap sign → (sign < 48) ⊎ (57 < sign)
gap_is_sign sign (inl space) = inl (omega (arith, space))
gap_is_sign sign (inr feed) = inl (omega (arith, feed))

dot_free : (sign : ℕ) → IsGap sign → IsFree sign (46 ∷ [])
dot_free sign gap zero d h e = elim gap [ inl space ↦ absurd (omega (arith, space, e)) | inr feed ↦ absurd (omega (arith, feed, e)) ]
dot_free sign gap (suc k) d h e = absurd (omega arith)

names_count : (trap : TrapValue) → length (names_of trap) ≡ length trap.zones + length trap.segments + length trap.junctions
names_count trap =
    let zones = map (λ (z : ZonePart). z.name) trap.zones in
    let segments = map (λ (s : SegmentPart). s.name) trap.segments in
    omega (arith, length-append (zones ++ segments) trap.junctions, length-append zones segments, length-map trap.zones (λ (z : ZonePart). z.name), length-map trap.segments (λ (s : SegmentPart). s.name))

-- ---- places

pub zone_free : (trap : TrapValue) (zone : ℕ) (part : ZonePart) (sign : ℕ) → IsTrap trap → zone < length trap.zones → slice_get trap.zones zone ≡ Some part → IsGap sign → IsFree sign part.name
zone_free trap zone part sign t h is gap =
    let at = zone_name trap zone part [] h is in
    name_free part.name sign gap (rw at at (t.words zone [] (omega (arith, names_count trap))))

segment_free : (trap : TrapValue) (segment : ℕ) (part : SegmentPart) (sign : ℕ) → IsTrap trap → segment < length trap.segments → slice_get trap.segments segment ≡ Some part → IsGap sign → IsFree sign part.name
segment_free trap segment part sign t h is gap =
    let at = segment_name trap segment part [] h is in
    name_free part.name sign gap (rw at at (t.words (length trap.zones + segment) [] (omega (arith, names_count trap))))

pub place_free : (trap : TrapValue) (place sign : ℕ) → IsTrap trap → place < place_count trap → IsGap sign → IsFree sign (place_text trap place)
place_free trap place sign t h gap =
    elim (cases_lt place (length trap.zones)) [
      | inl front ↦
          let w = zone_written_so trap place front in
          rw w.text (zone_free trap place w.zone sign t front w.is gap)
      | inr past ↦
          let w = slot_written_so trap place past h in
          let few : slots_of trap w.segment ≤ 16 = (row_of trap w.segment t w.there).few in
          let small : w.index < 2 ^ 64 = omega (arith, few, w.below) in
          let number = free_decimal sign w.index (gap_is_sign sign gap) small in
          rw w.text (free_append sign w.part.name (46 ∷ decimal w.index) (segment_free trap w.segment w.part sign t w.there w.is gap) (free_append sign (46 ∷ []) (decimal w.index) (dot_free sign gap) number))
    ]

find_true : (test : ℕ → Bool) (k first n : ℕ) → find test (range_with_len first n) ≡ Some k → (k < first + n) × (test k ≡ true)
find_true test k first zero e = absurd (none-some k e)
find_true test k first (suc n) e =
    elim (cases_Bool (test first)) [
      | inl now ↦
          let same : first ≡ k = same_Some first k (sym (cond-true (test first) (Some first) (find test (range_with_len (first + 1) n)) now) ∙ e) in
          (omega (arith, same), ap test (sym same) ∙ now)
      | inr not ↦
          let rest = find_true test k (first + 1) n (sym (cond-false (test first) (Some first) (find test (range_with_len (first + 1) n)) not) ∙ e) in
          (omega (arith, rest.0), rest.1)
    ]

pub place_there : (trap : TrapValue) (text : List ℕ) (place : ℕ) → place_named trap text ≡ Some place → (place < place_count trap) × (place_text trap place ≡ text)
place_there trap text place e =
    let found = find_true (λ place. bytes_eq (place_text trap place) text) place 0 (place_count trap) e in
    (omega (arith, found.0), (bytes_eq-Decides (place_text trap place) text).0 found.1)

-- ---- junctions

-- a junction's name, as it is written
abbrev pub junction_text : TrapValue → ℕ → List ℕ
junction_text trap junction = at (λ (name : List ℕ). name) trap.junctions junction

junction_text_is : (trap : TrapValue) (junction : ℕ) → junction_text trap junction ≡ get_or trap.junctions junction []
junction_text_is trap junction =
    elim (slice_get_cases trap.junctions junction).1 [
      | inl there ↦ ap (λ o. option_map_or (λ (name : List ℕ). name) o []) there.2 ∙ sym (get_or_from_slice_get trap.junctions junction there.0 [] there.2)
      | inr past ↦ ap (λ o. option_map_or (λ (name : List ℕ). name) o []) past.1 ∙ sym (get_or_past trap.junctions junction [] past.0)
    ]

junction_name : (trap : TrapValue) (junction : ℕ) → get_or (names_of trap) (length trap.zones + length trap.segments + junction) [] ≡ get_or trap.junctions junction []
junction_name trap junction =
    let zones = map (λ (z : ZonePart). z.name) trap.zones in
    let segments = map (λ (s : SegmentPart). s.name) trap.segments in
    let count : length trap.zones + length trap.segments ≡ length (zones ++ segments) = omega (arith, length-append zones segments, length-map trap.zones (λ (z : ZonePart). z.name), length-map trap.segments (λ (s : SegmentPart). s.name)) in
    rw count (get_or-append-add (zones ++ segments) trap.junctions junction [])

pub junction_free : (trap : TrapValue) (junction sign : ℕ) → IsTrap trap → junction < length trap.junctions → IsGap sign → IsFree sign (junction_text trap junction)
junction_free trap junction sign t h gap =
    let is = junction_name trap junction in
    rw (junction_text_is trap junction) (name_free (get_or trap.junctions junction []) sign gap (rw is at (t.words (length trap.zones + length trap.segments + junction) [] (omega (arith, names_count trap)))))

named_there : (text : List ℕ) (first : ℕ) (names : List (List ℕ)) (k : ℕ) → position_from (λ (name : List ℕ). bytes_eq name text) first names ≡ Some k → (j : ℕ) × (k ≡ first + j) × (j < length names) × (get_or names j [] ≡ text)
named_there text first [] k e = absurd (none-some k e)
named_there text first (name ∷ names) k e =
    let p = λ (name : List ℕ). bytes_eq name text in
    elim (cases_Bool (bytes_eq name text)) [
      | inl now ↦
          let same : first ≡ k = same_Some first k (sym (cond-true (p name) (Some first) (position_from p (first + 1) names) now) ∙ e) in
          (0, omega (arith, same), omega arith, (bytes_eq-Decides name text).0 now)
      | inr not ↦
          let rest = named_there text (first + 1) names k (sym (cond-false (p name) (Some first) (position_from p (first + 1) names) not) ∙ e) in
          (suc rest.0, omega (arith, rest.1), omega (arith, rest.2), rest.3)
    ]

pub junction_there : (trap : TrapValue) (text : List ℕ) (junction : ℕ) → junction_named trap text ≡ Some junction → (junction < length trap.junctions) × (junction_text trap junction ≡ text)
junction_there trap text junction e =
    let found = named_there text 0 trap.junctions junction e in
    let same : found.0 ≡ junction = omega (arith, found.1) in
    (omega (arith, same, found.2), junction_text_is trap junction ∙ ap (λ k. get_or trap.junctions k []) (sym same) ∙ found.3)

first_named : (text : List ℕ) (first : ℕ) (names : List (List ℕ)) (k at : ℕ) → at ≡ first + k → k < length names → get_or names k [] ≡ text → ((j : ℕ) → j < k → get_or names j [] ≢ text)
    → position_from (λ (name : List ℕ). bytes_eq name text) first names ≡ Some at
first_named text first [] k at e h is before = absurd (omega arith)
first_named text first (name ∷ names) zero at e h is before =
    let p = λ (name : List ℕ). bytes_eq name text in
    let here : first ≡ at = omega (arith, e) in
    cond-true (p name) (Some first) (position_from p (first + 1) names) ((bytes_eq-Decides name text).1 is) ∙ ap (λ (n : ℕ). Some n) here
first_named text first (name ∷ names) (suc k) at e h is before =
    let p = λ (name : List ℕ). bytes_eq name text in
    let not = false_from_ne_true (p name) (λ same. before 0 (omega arith) ((bytes_eq-Decides name text).0 same)) in
    cond-false (p name) (Some first) (position_from p (first + 1) names) not ∙ first_named text (first + 1) names k at (omega (arith, e)) (omega arith) is (λ j below. before (suc j) (omega arith))

pub junction_one : (trap : TrapValue) (a b : ℕ) → IsTrap trap → a < length trap.junctions → b < length trap.junctions → junction_text trap a ≡ junction_text trap b → a ≡ b
junction_one trap a b t ha hb e =
    let n = length trap.zones + length trap.segments in
    let same = junction_name trap a ∙ sym (junction_text_is trap a) ∙ e ∙ junction_text_is trap b ∙ sym (junction_name trap b) in
    let one = unique (names_of trap) (n + a) (n + b) [] t.names (omega (arith, names_count trap)) (omega (arith, names_count trap)) same in
    omega (arith, one)

pub junction_is : (trap : TrapValue) (text : List ℕ) (junction : ℕ) → IsTrap trap → junction < length trap.junctions → junction_text trap junction ≡ text → junction_named trap text ≡ Some junction
junction_is trap text junction t h e =
    first_named text 0 trap.junctions junction junction (omega arith) h (sym (junction_text_is trap junction) ∙ e)
    (λ j below same. let one = junction_one trap j junction t (omega arith) h (junction_text_is trap j ∙ same ∙ sym e) in absurd (omega (arith, one)))
