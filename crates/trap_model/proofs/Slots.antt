-- Which slot is at which place.
use Rattle.std.proofs.Common.{◌≡◌, ℕ, ◌+◌, ◌-◌, ◌<◌, ◌≤◌, false, List, [], ◌∷◌, ◌++◌, length, get_or, map, None, Some, zero, suc, refl, sym, ap, ◌∙◌, arith, slice_get, slice_index, ltb, inl, inr, length-append}
use Rattle.std.specs.List.{range_with_len}
use Rattle.std.specs.Option.{option_map_or}
use Rattle.std.proofs.lemmas.Bool.{cases_lt, le-ltb, cond-false}
use Rattle.std.proofs.lemmas.Option.{slice_get-get_or, slice_get_past, slice_get_read, get_or_from_slice_get}
use Rattle.std.proofs.lemmas.List.FromFn.{length-map-range_with_len, get_or-map-range_with_len}
use Rattle.trap_parts.specs.declared.parts.SegmentPart.{SegmentPart}
use Rattle.trap_model.specs.declared.slot.Slot.{Slot}
use Rattle.trap_parts.specs.Parts.{TrapValue, slot_count}
use Rattle.trap_model.specs.Trap.{slot, slots_from, slot_at, place_count, limit_of}
use Rattle.trap_parts.specs.Joins.{firsts_from, first_slot, slots_of}
use Rattle.trap_model.proofs.Rows.{row_begins}

pub slice_get_left : {X : Type 0} (xs ys : List X) (k : ℕ) → k < length xs → slice_get (xs ++ ys) k ≡ slice_get xs k
slice_get_left [] ys k h = absurd (omega arith)
slice_get_left (x ∷ xs) ys zero h = refl
slice_get_left (x ∷ xs) ys (suc k) h = slice_get_left xs ys k (omega arith)

pub slice_get_right : {X : Type 0} (xs ys : List X) (k n : ℕ) → length xs + k ≡ n → slice_get (xs ++ ys) n ≡ slice_get ys k
slice_get_right [] ys k n e = let same : n ≡ k = omega arith in rw same refl
slice_get_right (x ∷ xs) ys k zero e = absurd (omega arith)
slice_get_right (x ∷ xs) ys k (suc n) e = slice_get_right xs ys k n (omega arith)

pub slice_get-map-range : {X : Type 0} (f : ℕ → X) (n k : ℕ) → k < n → slice_get (map f (range_with_len 0 n)) k ≡ Some (f k)
slice_get-map-range f n k h =
    let len = length-map-range_with_len f 0 n in
    slice_get-get_or (map f (range_with_len 0 n)) k (f k) (omega arith) ∙ ap (λ x. Some x) (get_or-map-range_with_len f 0 n k k (f k) h (omega arith))

pub length-slots_from : (number : ℕ) (segments : List SegmentPart) → length (slots_from number segments) ≡ slot_count segments
length-slots_from number [] = refl
length-slots_from number (segment ∷ segments) =
    omega (arith, length-append (map (slot number) (range_with_len 0 segment.slots)) (slots_from (number + 1) segments), length-map-range_with_len (slot number) 0 segment.slots, length-slots_from (number + 1) segments)

-- how many slots a segment of the list has
abbrev pub slots_in : List SegmentPart → ℕ → ℕ
slots_in segments k = option_map_or (λ part. part.slots) (slice_get segments k) 0

-- slot j of segment s, whose row begins at a place
pub slot_in_row : (place number : ℕ) (segments : List SegmentPart) (s j n : ℕ) → s < length segments → j < slots_in segments s → slice_index (firsts_from place segments) s + j ≡ place + n
    → slice_get (slots_from number segments) n ≡ Some (slot (number + s) j)
slot_in_row place number [] s j n h below e = absurd (omega arith)
slot_in_row place number (segment ∷ segments) zero j n h below e =
    let front = map (slot number) (range_with_len 0 segment.slots) in
    let len : length front ≡ segment.slots = length-map-range_with_len (slot number) 0 segment.slots in
    let same : n ≡ j = omega arith in
    let zeroth : number + 0 ≡ number = omega arith in
    rw (same, zeroth) (slice_get_left front (slots_from (number + 1) segments) j (omega arith) ∙ slice_get-map-range (slot number) segment.slots j below)
slot_in_row place number (segment ∷ segments) (suc s) j n h below e =
    let front = map (slot number) (range_with_len 0 segment.slots) in
    let len : length front ≡ segment.slots = length-map-range_with_len (slot number) 0 segment.slots in
    let inside : s < length segments = omega arith in
    let begins = row_begins (place + segment.slots) segments s inside in
    let rest = n - segment.slots in
    let next : number + suc s ≡ (number + 1) + s = omega arith in
    let at : slice_index (firsts_from (place + segment.slots) segments) s + j ≡ (place + segment.slots) + rest = omega (arith, e, begins) in
    rw next (slice_get_right front (slots_from (number + 1) segments) rest n (omega (arith, e, begins, len)) ∙ slot_in_row (place + segment.slots) (number + 1) segments s j rest inside below at)

-- the slot that is at the n-th place of rows that begin at a place
pub record IsLocated (place number : ℕ) (segments : List SegmentPart) (n : ℕ) : Type 0 where
  pub segment : ℕ
  pub index : ℕ
  pub there : segment < length segments
  pub below : index < slots_in segments segment
  pub at : slice_index (firsts_from place segments) segment + index ≡ place + n
  pub slot_is : slice_get (slots_from number segments) n ≡ Some (slot (number + segment) index)

pub locate : (place number : ℕ) (segments : List SegmentPart) (n : ℕ) → n < slot_count segments → IsLocated place number segments n
locate place number [] n h = absurd (omega arith)
locate place number (segment ∷ segments) n h =
    elim (cases_lt n segment.slots) [
      | inl below ↦ record {
        segment = 0;
        index = n;
        there = omega arith;
        below = below;
        at = refl;
        slot_is = slot_in_row place number (segment ∷ segments) 0 n n (omega arith) below refl;
      }
      | inr past ↦
          let rest = locate (place + segment.slots) (number + 1) segments (n - segment.slots) (omega (arith, past, h)) in
          let at : slice_index (firsts_from place (segment ∷ segments)) (suc rest.segment) + rest.index ≡ place + n = omega (arith, rest.at, past) in
          let there : suc rest.segment < length (segment ∷ segments) = omega (arith, rest.there) in
          record {
            segment = suc rest.segment;
            index = rest.index;
            there = there;
            below = rest.below;
            at = at;
            slot_is = slot_in_row place number (segment ∷ segments) (suc rest.segment) rest.index n there rest.below at;
          }
    ]

-- slot j of segment s of a trap
pub slot_at_row : (trap : TrapValue) (s j : ℕ) → s < length trap.segments → j < slots_of trap s → slot_at trap (first_slot trap s + j) ≡ Some (slot s j)
slot_at_row trap s j h below =
    let begins = row_begins (length trap.zones) trap.segments s h in
    let past : ltb (first_slot trap s + j) (length trap.zones) ≡ false = le-ltb (first_slot trap s + j) (length trap.zones) (omega (arith, begins)) in
    let n = (first_slot trap s + j) - length trap.zones in
    let zeroth : 0 + s ≡ s = omega arith in
    cond-false (ltb (first_slot trap s + j) (length trap.zones)) None (slice_get (slots_from 0 trap.segments) n) past
    ∙ rw zeroth at (slot_in_row (length trap.zones) 0 trap.segments s j n h below (omega (arith, begins)))

-- the slot at a place after the zones
pub record IsSlotPlace (trap : TrapValue) (place : ℕ) : Type 0 where
  pub segment : ℕ
  pub index : ℕ
  pub there : segment < length trap.segments
  pub below : index < slots_of trap segment
  pub at : first_slot trap segment + index ≡ place
  pub slot_is : slice_get (slots_from 0 trap.segments) (place - length trap.zones) ≡ Some (slot segment index)

pub slot_place : (trap : TrapValue) (place : ℕ) → length trap.zones ≤ place → place < place_count trap → IsSlotPlace trap place
slot_place trap place past h =
    let l = locate (length trap.zones) 0 trap.segments (place - length trap.zones) (omega arith) in
    let zeroth : 0 + l.segment ≡ l.segment = omega arith in
    record {
      segment = l.segment;
      index = l.index;
      there = l.there;
      below = l.below;
      at = omega (arith, l.at);
      slot_is = rw zeroth at l.slot_is;
    }

-- what a slot says that was read at a place after the zones
pub record IsSlotRead (trap : TrapValue) (place : ℕ) (s : Slot) : Type 0 where
  pub there : s.segment < length trap.segments
  pub below : s.index < slots_of trap s.segment
  pub at : first_slot trap s.segment + s.index ≡ place
  pub is : slot_at trap place ≡ Some s

pub slot_at_after_zones : (trap : TrapValue) (place : ℕ) → length trap.zones ≤ place → slot_at trap place ≡ slice_get (slots_from 0 trap.segments) (place - length trap.zones)
slot_at_after_zones trap place past =
    cond-false (ltb place (length trap.zones)) None (slice_get (slots_from 0 trap.segments) (place - length trap.zones)) (le-ltb place (length trap.zones) past)

pub slot_read : (trap : TrapValue) (place : ℕ) (slots : List Slot) (s : Slot) → slots ≡ slots_from 0 trap.segments → length trap.zones ≤ place → place < place_count trap
    → s ≡ get_or slots (place - length trap.zones) s → IsSlotRead trap place s
slot_read trap place slots s all past h read =
    let p = slot_place trap place past h in
    let is : slot p.segment p.index ≡ s = sym (get_or_from_slice_get (slots_from 0 trap.segments) (place - length trap.zones) (slot p.segment p.index) s p.slot_is) ∙ sym (rw all at read) in
    record {
      there = rw (ap (λ (x : Slot). x.segment) is) at p.there;
      below = rw (ap (λ (x : Slot). x.segment) is, ap (λ (x : Slot). x.index) is) at p.below;
      at = rw (ap (λ (x : Slot). x.segment) is, ap (λ (x : Slot). x.index) is) at p.at;
      is = slot_at_after_zones trap place past ∙ p.slot_is ∙ ap (λ (x : Slot). Some x) is;
    }

-- the limit of a slot is its segment's load
pub limit_of_slot : (trap : TrapValue) (place : ℕ) (s : Slot) (part : SegmentPart) → length trap.zones ≤ place → IsSlotRead trap place s → part ≡ get_or trap.segments s.segment part → part.load ≡ limit_of trap place
limit_of_slot trap place s part past read is =
    let none = slice_get_past trap.zones place past in
    let there = slice_get_read trap.segments (length trap.segments) s.segment part refl read.there is in
    rw (none, read.is, there) refl
