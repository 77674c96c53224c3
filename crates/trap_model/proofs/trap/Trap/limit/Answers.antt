use Rattle.std.proofs.Common.{arith, ap, ◌∙◌, length, ◌≡◌}
use Rattle.trap_parts.specs.Parts.{lists}
use Rattle.trap_model.proofs.Slots.{length-slots_from, slot_read, limit_of_slot}
use Rattle.trap_model.proofs.trap.Trap.limit.Goals as goal

pub index-slot-requires : goal.index-slot-requires
index-slot-requires c =
    let t = c.self.invariant in
    let count = ap length t.all_slots ∙ length-slots_from 0 c.self.inside.parts.segments.items in
    let there = rw (← c.self.view_is) at c.requires in
    omega (arith, there, count, c.self.inside.slots.ok.0, c.self.inside.parts.zones.ok.0)

pub index-requires-2 : goal.index-requires-2
index-requires-2 c =
    let there = rw (← c.self.view_is) at c.requires in
    let zones : c.len-zones.result ≡ length c.self.inside.parts.zones.items = c.len-zones.ensures ∙ c.self.inside.parts.zones.ok.0 in
    let read = slot_read (lists c.self.inside.parts) c.args.place.0 c.self.inside.slots.items c.index-slot.result.now c.self.invariant.all_slots (omega (arith, zones)) there (rw zones at c.index-slot.ensures) in
    omega (arith, read.there, c.self.inside.parts.segments.ok.0)

pub returns : goal.returns
returns c =
    let there = rw (← c.self.view_is) at c.requires in
    let zones : c.len-zones.result ≡ length c.self.inside.parts.zones.items = c.len-zones.ensures ∙ c.self.inside.parts.zones.ok.0 in
    let read = slot_read (lists c.self.inside.parts) c.args.place.0 c.self.inside.slots.items c.index-slot.result.now c.self.invariant.all_slots (omega (arith, zones)) there (rw zones at c.index-slot.ensures) in
    rw (← c.self.view_is) (limit_of_slot (lists c.self.inside.parts) c.args.place.0 c.index-slot.result.now c.index-2.result.now (omega (arith, zones)) read c.index-2.ensures)
