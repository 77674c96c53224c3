use Rattle.std.proofs.Common.{arith, ap, ◌∙◌, length}
use Rattle.trap_model.proofs.Slots.{length-slots_from}
use Rattle.trap_model.proofs.trap.Trap.places.Goals as goal

pub overflow_cast-result : goal.overflow_cast-result
overflow_cast-result c =
    let t = c.self.invariant in
    let count = ap length t.all_slots ∙ length-slots_from 0 c.self.inside.parts.segments.items in
    omega (arith, t.sound.zones, t.sound.slots, count, c.self.inside.slots.ok.0, c.self.inside.parts.zones.ok.0)

pub returns-clause-places : goal.returns-clause-places
returns-clause-places c =
    let t = c.self.invariant in
    let count = ap length t.all_slots ∙ length-slots_from 0 c.self.inside.parts.segments.items in
    rw (← c.self.view_is) (omega (arith, count, c.self.inside.slots.ok.0, c.self.inside.parts.zones.ok.0))
