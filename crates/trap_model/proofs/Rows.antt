-- The slots of a segment lie in a row among the places.
use Rattle.std.proofs.Common.{◌≡◌, ℕ, ◌+◌, ◌<◌, ◌≤◌, List, [], ◌∷◌, length, get_or, Some, zero, suc, refl, sym, ap, arith, slice_get, slice_index, inl, inr}
use Rattle.std.proofs.lemmas.Option.{slice_get_read, slice_get_cases}
use Rattle.std.specs.Option.{option_map_or}
use Rattle.trap_parts.specs.declared.parts.SegmentPart.{SegmentPart}
use Rattle.trap_parts.specs.Parts.{TrapValue, slot_count}
use Rattle.trap_model.specs.Trap.{place_count}
use Rattle.trap_parts.specs.Joins.{firsts_from, first_slot, slots_of}
use Rattle.trap_parts.specs.Build.{IsTrap}

pub length-firsts_from : (place : ℕ) (segments : List SegmentPart) → length (firsts_from place segments) ≡ length segments
length-firsts_from place [] = refl
length-firsts_from place (segment ∷ segments) = ap suc (length-firsts_from (place + segment.slots) segments)

-- the row of a segment ends before the last place does
pub row_within : (place : ℕ) (segments : List SegmentPart) (k : ℕ) → k < length segments
    → slice_index (firsts_from place segments) k + option_map_or (λ part. part.slots) (slice_get segments k) 0 ≤ place + slot_count segments
row_within place [] k h = absurd (omega arith)
row_within place (segment ∷ segments) zero h = omega arith
row_within place (segment ∷ segments) (suc k) h = omega (arith, row_within (place + segment.slots) segments k (omega arith))

pub row_begins : (place : ℕ) (segments : List SegmentPart) (k : ℕ) → k < length segments → place ≤ slice_index (firsts_from place segments) k
row_begins place [] k h = absurd (omega arith)
row_begins place (segment ∷ segments) zero h = omega arith
row_begins place (segment ∷ segments) (suc k) h = omega (arith, row_begins (place + segment.slots) segments k (omega arith))

-- how many slots the segment has that was read there
pub slots_read : (segments : List SegmentPart) (k : ℕ) (part : SegmentPart) → k < length segments → part ≡ get_or segments k part
    → option_map_or (λ s. s.slots) (slice_get segments k) 0 ≡ part.slots
slots_read segments k part h e =
    let at : slice_get segments k ≡ Some part = slice_get_read segments (length segments) k part refl h e in
    ap (λ o. option_map_or (λ (s : SegmentPart). s.slots) o 0) at

-- a segment of a trap has a slot, and all its slots are places
pub record IsRow (trap : TrapValue) (segment : ℕ) : Type 0 where
  pub some : 1 ≤ slots_of trap segment
  pub few : slots_of trap segment ≤ 16
  pub begins : length trap.zones ≤ first_slot trap segment
  pub within : first_slot trap segment + slots_of trap segment ≤ place_count trap
  pub small : place_count trap ≤ 288

pub row_of : (trap : TrapValue) (segment : ℕ) → IsTrap trap → segment < length trap.segments → IsRow trap segment
row_of trap segment t h =
    elim (slice_get_cases trap.segments segment).1 [
      | inl there ↦
          let part = there.0 in
          let count : slots_of trap segment ≡ part.slots = slots_read trap.segments segment part h (sym there.3) in
          let bounds : (1 ≤ part.slots) × (part.slots ≤ 16) = rw (there.3) at (t.lengths segment part h) in
          record {
            some = rw count bounds.0;
            few = rw count bounds.1;
            begins = row_begins (length trap.zones) trap.segments segment h;
            within = row_within (length trap.zones) trap.segments segment h;
            small = omega (arith, t.zones, t.slots);
          }
      | inr past ↦ absurd (omega (arith, past.0))
    ]
