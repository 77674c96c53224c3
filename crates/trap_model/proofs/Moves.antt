-- The moves are those between neighbouring slots of one segment.
use Rattle.std.proofs.Common.{◌≡◌, ℕ, ◌+◌, ◌-◌, ◌<◌, ◌≤◌, Bool, true, false, cond, ◌&&◌, List, [], ◌∷◌, length, find, Option, None, Some, zero, suc, refl, sym, ap, ◌∙◌, arith, slice_get, slice_index, eqb, ltb, inl, inr, ◌⊎◌}
use Rattle.std.specs.List.{flat_map, range_with_len}
use Rattle.std.specs.Option.{option_or}
use Rattle.std.proofs.lemmas.Bool.{cases_lt, cases_eq, eq-eqb, ne_eqb, eqb-true, cond-true, cond-false, lt-ltb, and_left, and_right}
use Rattle.std.proofs.lemmas.Option.{slice_get_past}
use Rattle.qc_base.specs.declared.ids.End.TheVariants.{A, B}
use Rattle.trap_parts.specs.declared.parts.SegmentPart.{SegmentPart}
use Rattle.trap_model.specs.declared.channel.Kind.TheVariants.{Move}
use Rattle.trap_model.specs.declared.channel.Channel.{Channel}
use Rattle.trap_model.specs.declared.slot.Slot.{Slot}
use Rattle.trap_parts.specs.Parts.{TrapValue, slot_count}
use Rattle.trap_model.specs.Trap.{slot, slots_from, slot_at, place_count}
use Rattle.trap_parts.specs.Joins.{firsts_from, first_slot, slots_of, links_of}
use Rattle.trap_model.specs.Channels.{channel, move_channels, moves_from, channel_at, is_move, move_of, move_channel, same_segment}
use Rattle.trap_model.proofs.Rows.{row_begins}
use Rattle.trap_model.proofs.Slots.{slots_in, slot_place, slot_at_row, slot_at_after_zones, length-slots_from, IsSlotPlace}
use Rattle.trap_model.proofs.Finds.{channel_found, find_parts, find-append, no_moves, no_docks, no_crossings, or_none}

-- the test passes one channel, in the pair of one slot
abbrev pub Picks : (Channel → Bool) → Channel → ℕ → Type 0
Picks p c t = (s : ℕ) → find p (move_channels s) ≡ cond (eqb t s) (Some c) None

picked : (p : Channel → Bool) (c : Channel) (t s : ℕ) → Picks p c t → t ≡ s → find p (move_channels s) ≡ Some c
picked p c t s h same = h s ∙ cond-true (eqb t s) (Some c) None (eq-eqb t s same)

passed : (p : Channel → Bool) (c : Channel) (t s : ℕ) → Picks p c t → (t ≡ s → ⊥) → find p (move_channels s) ≡ None
passed p c t s h other = h s ∙ cond-false (eqb t s) (Some c) None (ne_eqb t s other)

first_pair : (p : Channel → Bool) (place n : ℕ) (o : Option Channel) → find p (move_channels place) ≡ o
    → find p (flat_map move_channels (range_with_len place (suc n))) ≡ option_or o (find p (flat_map move_channels (range_with_len (place + 1) n)))
first_pair p place n o e = find-append p (move_channels place) (flat_map move_channels (range_with_len (place + 1) n)) ∙ ap (λ x. option_or x (find p (flat_map move_channels (range_with_len (place + 1) n)))) e

pairs_hit : (p : Channel → Bool) (c : Channel) (t : ℕ) → Picks p c t → (place n : ℕ) → place ≤ t → t < place + n → find p (flat_map move_channels (range_with_len place n)) ≡ Some c
pairs_hit p c t h place zero low high = absurd (omega arith)
pairs_hit p c t h place (suc n) low high =
    elim (cases_eq t place) [
      | inl same ↦ first_pair p place n (Some c) (picked p c t place h same)
      | inr other ↦ first_pair p place n None (passed p c t place h other) ∙ pairs_hit p c t h (place + 1) n (omega (arith, other)) (omega arith)
    ]

pairs_miss : (p : Channel → Bool) (c : Channel) (t : ℕ) → Picks p c t → (place n : ℕ) → (t < place) ⊎ (place + n ≤ t) → find p (flat_map move_channels (range_with_len place n)) ≡ None
pairs_miss p c t h place zero out = refl
pairs_miss p c t h place (suc n) (inl below) = first_pair p place n None (passed p c t place h (λ same. omega arith)) ∙ pairs_miss p c t h (place + 1) n (inl (omega arith))
pairs_miss p c t h place (suc n) (inr above) = first_pair p place n None (passed p c t place h (λ same. omega arith)) ∙ pairs_miss p c t h (place + 1) n (inr (omega arith))

first_row : (p : Channel → Bool) (place : ℕ) (segment : SegmentPart) (segments : List SegmentPart) (o : Option Channel) → find p (flat_map move_channels (range_with_len place (segment.slots - 1))) ≡ o
    → find p (moves_from place (segment ∷ segments)) ≡ option_or o (find p (moves_from (place + segment.slots) segments))
first_row p place segment segments o e =
    find-append p (flat_map move_channels (range_with_len place (segment.slots - 1))) (moves_from (place + segment.slots) segments) ∙ ap (λ x. option_or x (find p (moves_from (place + segment.slots) segments))) e

moves_before : (p : Channel → Bool) (c : Channel) (t : ℕ) → Picks p c t → (place : ℕ) (segments : List SegmentPart) → t < place → find p (moves_from place segments) ≡ None
moves_before p c t h place [] below = refl
moves_before p c t h place (segment ∷ segments) below =
    first_row p place segment segments None (pairs_miss p c t h place (segment.slots - 1) (inl below)) ∙ moves_before p c t h (place + segment.slots) segments (omega arith)

moves_past : (p : Channel → Bool) (c : Channel) (t : ℕ) → Picks p c t → (place : ℕ) (segments : List SegmentPart) → place + slot_count segments ≤ t → find p (moves_from place segments) ≡ None
moves_past p c t h place [] above = refl
moves_past p c t h place (segment ∷ segments) above =
    first_row p place segment segments None (pairs_miss p c t h place (segment.slots - 1) (inr (omega arith))) ∙ moves_past p c t h (place + segment.slots) segments (omega arith)

-- a slot that isn't the last of its row
moves_hit : (p : Channel → Bool) (c : Channel) (t : ℕ) → Picks p c t → (place : ℕ) (segments : List SegmentPart) (s j : ℕ) → s < length segments → slice_index (firsts_from place segments) s + j ≡ t → j + 1 < slots_in segments s
    → find p (moves_from place segments) ≡ Some c
moves_hit p c t h place [] s j there at below = absurd (omega arith)
moves_hit p c t h place (segment ∷ segments) zero j there at below = first_row p place segment segments (Some c) (pairs_hit p c t h place (segment.slots - 1) (omega arith) (omega arith))
moves_hit p c t h place (segment ∷ segments) (suc s) j there at below =
    let inside : s < length segments = omega arith in
    let begins = row_begins (place + segment.slots) segments s inside in
    first_row p place segment segments None (pairs_miss p c t h place (segment.slots - 1) (inr (omega (arith, begins, at)))) ∙ moves_hit p c t h (place + segment.slots) segments s j inside at below

-- the last slot of its row
moves_last : (p : Channel → Bool) (c : Channel) (t : ℕ) → Picks p c t → (place : ℕ) (segments : List SegmentPart) (s j : ℕ) → s < length segments → slice_index (firsts_from place segments) s + j ≡ t → j + 1 ≡ slots_in segments s
    → find p (moves_from place segments) ≡ None
moves_last p c t h place [] s j there at last = absurd (omega arith)
moves_last p c t h place (segment ∷ segments) zero j there at last =
    first_row p place segment segments None (pairs_miss p c t h place (segment.slots - 1) (inr (omega arith))) ∙ moves_before p c t h (place + segment.slots) segments (omega arith)
moves_last p c t h place (segment ∷ segments) (suc s) j there at last =
    let inside : s < length segments = omega arith in
    let begins = row_begins (place + segment.slots) segments s inside in
    first_row p place segment segments None (pairs_miss p c t h place (segment.slots - 1) (inr (omega (arith, begins, at)))) ∙ moves_last p c t h (place + segment.slots) segments s j inside at last

-- no slot is at a zone's place, and none past the last place
pub no_slot_zone : (trap : TrapValue) (t : ℕ) → t < length trap.zones → slot_at trap t ≡ None
no_slot_zone trap t h = cond-true (ltb t (length trap.zones)) None (slice_get (slots_from 0 trap.segments) (t - length trap.zones)) (lt-ltb t (length trap.zones) h)

pub no_slot_past : (trap : TrapValue) (t : ℕ) → place_count trap ≤ t → slot_at trap t ≡ None
no_slot_past trap t h =
    slot_at_after_zones trap t (omega arith) ∙ slice_get_past (slots_from 0 trap.segments) (t - length trap.zones) (omega (arith, length-slots_from 0 trap.segments))

pub slot_of_place : (trap : TrapValue) (t : ℕ) → length trap.zones ≤ t → (p : IsSlotPlace trap t) → slot_at trap t ≡ Some (slot p.segment p.index)
slot_of_place trap t past p = slot_at_after_zones trap t past ∙ p.slot_is

-- the place after the last slot of a row is of another row
other_row : (trap : TrapValue) (t : ℕ) (here : IsSlotPlace trap t) (next : IsSlotPlace trap (t + 1)) → slots_of trap here.segment ≤ here.index + 1 → here.segment ≡ next.segment → ⊥
other_row trap t here next last same =
    let at : first_slot trap here.segment + next.index ≡ t + 1 = rw same next.at in
    let below : next.index < slots_of trap here.segment = rw same next.below in
    omega (arith, here.at, at, below, last)

-- the pair of a slot is there where the next place is a slot of the same segment
move_found : (trap : TrapValue) (p : Channel → Bool) (c : Channel) (t : ℕ) → Picks p c t
    → find p (moves_from (length trap.zones) trap.segments) ≡ cond (same_segment (slot_at trap t) (slot_at trap (t + 1))) (Some c) None
move_found trap p c t h =
    elim (cases_lt t (length trap.zones)) [
      | inl zone ↦ rw (no_slot_zone trap t zone) (moves_before p c t h (length trap.zones) trap.segments zone)
      | inr past ↦ elim (cases_lt t (place_count trap)) [
        | inr beyond ↦ rw (no_slot_past trap t beyond) (moves_past p c t h (length trap.zones) trap.segments beyond)
        | inl inside ↦
            let here = slot_place trap t past inside in
            rw (slot_of_place trap t past here) (elim (cases_lt (here.index + 1) (slots_of trap here.segment)) [
              | inl more ↦
                  let next : slot_at trap (t + 1) ≡ Some (slot here.segment (here.index + 1)) =
                  (let place : first_slot trap here.segment + (here.index + 1) ≡ t + 1 = omega (arith, here.at) in rw place at (slot_at_row trap here.segment (here.index + 1) here.there more)) in
                  rw (next, eq-eqb here.segment here.segment refl) (moves_hit p c t h (length trap.zones) trap.segments here.segment here.index here.there here.at more)
              | inr last ↦
                  moves_last p c t h (length trap.zones) trap.segments here.segment here.index here.there here.at (omega (arith, last, here.below))
                  ∙ sym (elim (cases_lt (t + 1) (place_count trap)) [
                    | inr end ↦ rw (no_slot_past trap (t + 1) end) refl
                    | inl there ↦
                        let next = slot_place trap (t + 1) (omega (arith, past)) there in
                        let apart : here.segment ≡ next.segment → ⊥ = λ same. other_row trap t here next last same in
                        rw (slot_of_place trap (t + 1) (omega (arith, past)) next, ne_eqb here.segment next.segment apart) refl
                  ])
            ])
      ]
    ]

forward : (from s : ℕ) (b : Bool) → (b ≡ true → from ≡ s) → cond b (Some (channel Move s B (s + 1) A None)) None ≡ cond b (Some (channel Move from B (from + 1) A None)) None
forward from s true is = rw (is refl) refl
forward from s false is = refl

backward : (to s : ℕ) (b : Bool) → (b ≡ true → to ≡ s) → cond b (Some (channel Move (s + 1) A s B None)) None ≡ cond b (Some (channel Move (to + 1) A to B None)) None
backward to s true is = rw (is refl) refl
backward to s false is = refl

next_same : (t s : ℕ) → eqb (t + 1) (s + 1) ≡ eqb t s
next_same t s =
    elim (cases_eq t s) [
      | inl same ↦ eq-eqb (t + 1) (s + 1) (omega (arith, same)) ∙ sym (eq-eqb t s same)
      | inr other ↦ ne_eqb (t + 1) (s + 1) (λ same. other (omega (arith, same))) ∙ sym (ne_eqb t s other)
    ]

and_self : (b : Bool) → (b && b) ≡ b
and_self true = refl
and_self false = refl

not_both : (t s : ℕ) → (eqb t (s + 1) && eqb (t + 1) s) ≡ false
not_both t s =
    elim (cases_eq t (s + 1)) [
      | inl same ↦ and_right (eqb t (s + 1)) (eqb (t + 1) s) (ne_eqb (t + 1) s (λ e. omega (arith, same, e)))
      | inr other ↦ and_left (eqb t (s + 1)) (eqb (t + 1) s) (ne_eqb t (s + 1) other)
    ]

not_either : (t s : ℕ) → (eqb (t + 1) s && eqb t (s + 1)) ≡ false
not_either t s =
    elim (cases_eq t (s + 1)) [
      | inl same ↦ and_left (eqb (t + 1) s) (eqb t (s + 1)) (ne_eqb (t + 1) s (λ e. omega (arith, same, e)))
      | inr other ↦ and_right (eqb (t + 1) s) (eqb t (s + 1)) (ne_eqb t (s + 1) other)
    ]

picks_ahead : (from : ℕ) → Picks (is_move from (from + 1)) (channel Move from B (from + 1) A None) from
picks_ahead from = λ s. rw (next_same from s, and_self, not_both from s) (forward from s (eqb from s) (eqb-true from s))

picks_back : (to : ℕ) → Picks (is_move (to + 1) to) (channel Move (to + 1) A to B None) to
picks_back to = λ s. rw (not_either to s, next_same to s, and_self) (backward to s (eqb to s) (eqb-true to s))

-- the moves of slots that aren't side by side
no_pair : (from to s : ℕ) → (to ≡ from + 1 → ⊥) → (from ≡ to + 1 → ⊥) → find (is_move from to) (move_channels s) ≡ None
no_pair from to s ahead back =
    let f : (eqb from s && eqb to (s + 1)) ≡ false = elim (cases_eq from s) [
      | inl same ↦ and_right (eqb from s) (eqb to (s + 1)) (ne_eqb to (s + 1) (λ e. ahead (omega (arith, same, e))))
      | inr other ↦ and_left (eqb from s) (eqb to (s + 1)) (ne_eqb from s other)
    ] in
    let b : (eqb from (s + 1) && eqb to s) ≡ false = elim (cases_eq to s) [
      | inl same ↦ and_left (eqb from (s + 1)) (eqb to s) (ne_eqb from (s + 1) (λ e. back (omega (arith, same, e))))
      | inr other ↦ and_right (eqb from (s + 1)) (eqb to s) (ne_eqb to s other)
    ] in
    rw (f, b) refl

same_segment_sym : (a b : Option Slot) → same_segment a b ≡ same_segment b a
same_segment_sym None None = refl
same_segment_sym None (Some t) = refl
same_segment_sym (Some s) None = refl
same_segment_sym (Some s) (Some t) =
    elim (cases_eq s.segment t.segment) [
      | inl same ↦ eq-eqb s.segment t.segment same ∙ sym (eq-eqb t.segment s.segment (sym same))
      | inr other ↦ ne_eqb s.segment t.segment other ∙ sym (ne_eqb t.segment s.segment (λ e. other (sym e)))
    ]

cond_same : {X : Type 0} (b : Bool) (x : X) → cond b x x ≡ x
cond_same true x = refl
cond_same false x = refl

find_move : (trap : TrapValue) (from to : ℕ) → find (is_move from to) (moves_from (length trap.zones) trap.segments) ≡ move_channel trap from to
find_move trap from to =
    elim (cases_eq to (from + 1)) [
      | inl ahead ↦
          rw (ahead, eq-eqb (from + 1) (from + 1) refl) (move_found trap (is_move from (from + 1)) (channel Move from B (from + 1) A None) from (picks_ahead from))
      | inr apart ↦ elim (cases_eq from (to + 1)) [
        | inl back ↦
            rw (back, ne_eqb to ((to + 1) + 1) (λ e. omega (arith, e)), eq-eqb (to + 1) (to + 1) refl, same_segment_sym (slot_at trap (to + 1)) (slot_at trap to))
            (move_found trap (is_move (to + 1) to) (channel Move (to + 1) A to B None) to (picks_back to))
        | inr other ↦
            rw (ne_eqb to (from + 1) apart, ne_eqb from (to + 1) other, cond_same)
            (no_moves (is_move from to) (λ s. no_pair from to s apart other) (length trap.zones) trap.segments)
      ]
    ]

middle_part : {X : Type 0} (a b c : Option X) → a ≡ None → c ≡ None → option_or (option_or a b) c ≡ b
middle_part a b c p q = rw (p, q) (or_none b)

-- the channel at the number of the move
pub move_leads : (trap : TrapValue) (from to : ℕ) → channel_at trap (move_of trap from to) ≡ move_channel trap from to
move_leads trap from to =
    channel_found trap (is_move from to) ∙ find_parts trap (is_move from to)
    ∙ middle_part _ (find (is_move from to) (moves_from (length trap.zones) trap.segments)) _ (no_docks trap (is_move from to) (λ z e s. refl) (λ z e s. refl) (links_of trap)) (no_crossings trap (is_move from to) 0 (length trap.junctions) (λ junction h below f t. refl))
    ∙ find_move trap from to

same_segment_none : (o : Option Slot) → same_segment o None ≡ false
same_segment_none None = refl
same_segment_none (Some s) = refl

-- no slot there, no move
pub no_move_from : (trap : TrapValue) (from to : ℕ) → place_count trap ≤ from → move_channel trap from to ≡ None
no_move_from trap from to h = rw (no_slot_past trap from h) refl

pub no_move_to : (trap : TrapValue) (from to : ℕ) → place_count trap ≤ to → move_channel trap from to ≡ None
no_move_to trap from to h = rw (no_slot_past trap to h, same_segment_none) refl

pub no_move_apart : (trap : TrapValue) (from to : ℕ) → eqb to (from + 1) ≡ false → eqb from (to + 1) ≡ false → move_channel trap from to ≡ None
no_move_apart trap from to p q = rw (p, q, cond_same) refl
