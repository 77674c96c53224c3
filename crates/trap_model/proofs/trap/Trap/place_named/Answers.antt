use Rattle.std.proofs.Common.{arith, sym, ◌∙◌}
use Rattle.trap_parts.specs.Parts.{lists}
use Rattle.trap_model.proofs.PlaceTexts.{zone_found, named_is, slot_answer}
use Rattle.trap_model.proofs.trap.Trap.place_named.Goals as goal

pub overflow_cast-result : goal.overflow_cast-result
overflow_cast-result c =
    let found = zone_found (lists c.self.inside.parts) c.args.text.now c.in-Some.zone (sym c.zone_named.ensures ∙ c.in-Some.is) in
    omega (arith, found.0, c.self.invariant.sound.zones)

pub returns-in-Some : goal.returns-in-Some
returns-in-Some c =
    let trap = lists c.self.inside.parts in
    let found = zone_found trap c.args.text.now c.in-Some.zone (sym c.zone_named.ensures ∙ c.in-Some.is) in
    rw (← c.self.view_is) (sym (named_is trap c.in-Some.zone c.args.text.now c.self.invariant.sound (omega (arith, found.0)) found.1))

pub returns-in-None : goal.returns-in-None
returns-in-None c =
    rw (← c.self.view_is)
    (slot_answer (lists c.self.inside.parts) c.args.text.now c.slot_named.result c.self.invariant.sound (sym c.zone_named.ensures ∙ c.in-None.is) (rw (← c.self.view_is) at c.slot_named.ensures))
