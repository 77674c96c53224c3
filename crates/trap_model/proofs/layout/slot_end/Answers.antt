use Rattle.std.proofs.Common.{arith, refl}
use Rattle.trap_parts.specs.Parts.{lists}
use Rattle.trap_model.proofs.Rows.{length-firsts_from, slots_read, row_of}
use Rattle.trap_model.proofs.layout.slot_end.Goals as goal

pub bounds-firsts-segment : goal.bounds-firsts-segment
bounds-firsts-segment c = rw (c.requires.firsts, length-firsts_from) c.requires.there

pub overflow_add-slot : goal.overflow_add-slot
overflow_add-slot c =
    let row = row_of (lists c.args.parts.now) c.args.segment c.requires.trap c.requires.there in
    let count = slots_read c.args.parts.now.segments.items c.args.segment c.index.result.now c.requires.there c.index.ensures in
    rw c.requires.firsts (omega (arith, row.within, row.small, count))

pub returns-in-B : goal.returns-in-B
returns-in-B c =
    let count = slots_read c.args.parts.now.segments.items c.args.segment c.index.result.now c.requires.there c.index.ensures in
    rw (c.in-B.is, c.requires.firsts, ← count) refl
