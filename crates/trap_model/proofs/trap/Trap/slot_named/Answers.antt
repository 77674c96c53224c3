use Rattle.std.proofs.Common.{arith, sym, ap, ◌+◌, length}
use Rattle.std.specs.Str.{bytes_eq}
use Rattle.trap_parts.specs.declared.parts.SegmentPart.{SegmentPart}
use Rattle.trap_parts.specs.Parts.{lists}
use Rattle.trap_parts.specs.Joins.{first_slot}
use Rattle.trap_parts.proofs.Known.{position_at}
use Rattle.trap_model.proofs.Rows.{length-firsts_from}
use Rattle.trap_model.proofs.PlaceTexts.{no_slot_without_dot, no_slot_without_segment, no_slot_without_number, slot_found, slot_text_small, first_read}
use Rattle.trap_model.proofs.trap.Trap.slot_named.Goals as goal

pub returns-in_err-name : goal.returns-in_err-name
returns-in_err-name c =
    rw (← c.self.view_is, c.from_residual.ensures) (no_slot_without_dot (lists c.self.inside.parts) c.args.text.now c.self.invariant.sound (λ word rest free e. c.in_err-name.ensures.only word rest free e))

pub returns-in_err-segment : goal.returns-in_err-segment
returns-in_err-segment c =
    let cut = c.in_ok-name.ensures in
    rw (← c.self.view_is, c.from_residual-in_err-segment.ensures) (no_slot_without_segment (lists c.self.inside.parts) c.args.text.now _ _ c.self.invariant.sound cut.found cut.free (sym c.in_err-segment.ensures))

pub index-requires : goal.index-requires
index-requires c =
    let inside = position_at (λ (segment : SegmentPart). bytes_eq segment.name _) c.self.inside.parts.segments.items c.in_ok-segment.segment (sym c.in_ok-segment.ensures) in
    omega (arith, inside, c.self.inside.parts.segments.ok.0)

pub returns-in_err-index : goal.returns-in_err-index
returns-in_err-index c =
    let cut = c.in_ok-name.ensures in
    rw (← c.self.view_is, c.from_residual-in_err-index.ensures) (no_slot_without_number (lists c.self.inside.parts) c.args.text.now _ _ c.in_ok-segment.segment c.index.result.now c.self.invariant.sound cut.found cut.free (sym c.in_ok-segment.ensures) c.index.ensures c.in_err-index.ensures)

pub index-requires-2 : goal.index-requires-2
index-requires-2 c =
    let inside = position_at (λ (segment : SegmentPart). bytes_eq segment.name _) c.self.inside.parts.segments.items c.in_ok-segment.segment (sym c.in_ok-segment.ensures) in
    omega (arith, inside, ap length c.self.invariant.of_segments, length-firsts_from (length c.self.inside.parts.zones.items) c.self.inside.parts.segments.items, c.self.inside.firsts.ok.0)

pub overflow_add-result : goal.overflow_add-result
overflow_add-result c =
    let trap = lists c.self.inside.parts in
    let cut = c.in_ok-name.ensures in
    let number = c.in_ok-index.ensures in
    let found = sym c.in_ok-segment.ensures in
    let inside = position_at (λ (segment : SegmentPart). bytes_eq segment.name _) c.self.inside.parts.segments.items c.in_ok-segment.segment found in
    let first = first_read trap c.self.inside.firsts.items c.in_ok-segment.segment c.index-2.result.now c.self.invariant.of_segments inside c.index-2.ensures in
    let text = slot_found trap c.args.text.now _ _ c.in_ok-segment.segment c.in_ok-index.index c.index.result.now c.self.invariant.sound cut.found found c.index.ensures number.0 number.1 in
    let small = slot_text_small trap (first_slot trap c.in_ok-segment.segment + c.in_ok-index.index) c.args.text.now c.self.invariant.sound text in
    rw first (omega (arith, small))

pub returns : goal.returns
returns c =
    let trap = lists c.self.inside.parts in
    let cut = c.in_ok-name.ensures in
    let number = c.in_ok-index.ensures in
    let found = sym c.in_ok-segment.ensures in
    let inside = position_at (λ (segment : SegmentPart). bytes_eq segment.name _) c.self.inside.parts.segments.items c.in_ok-segment.segment found in
    let first = first_read trap c.self.inside.firsts.items c.in_ok-segment.segment c.index-2.result.now c.self.invariant.of_segments inside c.index-2.ensures in
    rw (← c.self.view_is, first)
    (slot_found trap c.args.text.now _ _ c.in_ok-segment.segment c.in_ok-index.index c.index.result.now c.self.invariant.sound cut.found found c.index.ensures number.0 number.1)
