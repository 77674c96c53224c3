use Rattle.std.proofs.Common.{arith, ap, ◌∙◌, length, ◌≡◌, ◌≤◌, ◌<◌, sym, append_assoc}
use Rattle.std.proofs.lemmas.List.{append-nil}
use Rattle.trap_parts.specs.Parts.{lists}
use Rattle.trap_model.specs.Trap.{place_count}
use Rattle.trap_model.proofs.Slots.{length-slots_from, slot_read}
use Rattle.trap_model.proofs.PlaceTexts.{text_of_slot, text_past}
use Rattle.trap_model.proofs.trap.Trap.push_place.Goals as goal

pub index-requires-in-Some : goal.index-requires-in-Some
index-requires-in-Some c =
    let trap = lists c.self.inside.parts in
    let zones : c.len-zones.result ≡ length c.self.inside.parts.zones.items = c.len-zones.ensures ∙ c.self.inside.parts.zones.ok.0 in
    let count = ap length c.self.invariant.all_slots ∙ length-slots_from 0 c.self.inside.parts.segments.items in
    let there : c.args.place.0 < place_count trap = omega (arith, c.in-Some.ensures.lookup.3.0, ap length c.deref.ensures.value, count, zones, c.if-place-zones.false) in
    let read = slot_read trap c.args.place.0 c.self.inside.slots.items c.in-Some.slot.now c.self.invariant.all_slots (omega (arith, zones, c.if-place-zones.false)) there (rw (c.deref.ensures.value, zones) at c.in-Some.ensures.lookup.1) in
    omega (arith, read.there, c.self.inside.parts.segments.ok.0)

pub returns-in_ok-extend_from_slice-4-clause-ok : goal.returns-in_ok-extend_from_slice-4-clause-ok
returns-in_ok-extend_from_slice-4-clause-ok c =
    let trap = lists c.self.inside.parts in
    let zones : c.len-zones.result ≡ length c.self.inside.parts.zones.items = c.len-zones.ensures ∙ c.self.inside.parts.zones.ok.0 in
    let count = ap length c.self.invariant.all_slots ∙ length-slots_from 0 c.self.inside.parts.segments.items in
    let past : length trap.zones ≤ c.args.place.0 = omega (arith, zones, c.if-place-zones.false) in
    let there : c.args.place.0 < place_count trap = omega (arith, c.in-Some.ensures.lookup.3.0, ap length c.deref.ensures.value, count, past, zones) in
    let read = slot_read trap c.args.place.0 c.self.inside.slots.items c.in-Some.slot.now c.self.invariant.all_slots past there (rw (c.deref.ensures.value, zones) at c.in-Some.ensures.lookup.1) in
    let text = text_of_slot trap c.args.place.0 c.in-Some.slot.now c.index-in-Some.result.now past read c.index-in-Some.ensures in
    rw (← c.self.view_is, text, c.in_ok-extend_from_slice-4.ensures.items, c.in_ok-extend_from_slice-3.ensures.items, c.in_ok-extend_from_slice-2.ensures.items, c.as_bytes.ensures.value, c.format.ensures.text, c.bytes-in-Some.ensures)
    (simp append_assoc)

pub returns-in_default-clause-ok : goal.returns-in_default-clause-ok
returns-in_default-clause-ok c =
    let trap = lists c.self.inside.parts in
    let zones : c.len-zones.result ≡ length c.self.inside.parts.zones.items = c.len-zones.ensures ∙ c.self.inside.parts.zones.ok.0 in
    let count = ap length c.self.invariant.all_slots ∙ length-slots_from 0 c.self.inside.parts.segments.items in
    let past : place_count trap ≤ c.args.place.0 = omega (arith, c.in_default.ensures.lookup.3, ap length c.deref.ensures.value, count, zones, c.if-place-zones.false) in
    rw (← c.self.view_is, text_past trap c.args.place.0 past) (sym (append-nil c.args.out.now.items))
