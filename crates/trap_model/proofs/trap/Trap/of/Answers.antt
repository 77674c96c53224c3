use Rattle.std.proofs.Common.{arith, ap, ◌∙◌, length, ◌≡◌, ◌+◌}
use Rattle.trap_parts.specs.Parts.{lists}
use Rattle.trap_model.specs.Trap.{place_count}
use Rattle.trap_model.proofs.Count.{few_channels}
use Rattle.trap_model.proofs.Slots.{length-slots_from}
use Rattle.trap_model.proofs.trap.Trap.of.Goals as goal

pub find_doors-requires : goal.find_doors-requires
find_doors-requires c =
    let few = few_channels (lists c.args.parts) c.requires.trap in
    rw (c.as_slice-2.ensures.value, c.in_ok-channels.ensures) (omega (arith, few))

pub overflow_cast-places : goal.overflow_cast-places
overflow_cast-places c =
    let count = ap length c.in_ok-slots.ensures ∙ length-slots_from 0 c.args.parts.segments.items in
    omega (arith, c.requires.trap.zones, c.requires.trap.slots, count, c.in_ok-slots.slots.ok.0, c.args.parts.zones.ok.0)

pub find_steps-requires : goal.find_steps-requires
find_steps-requires c =
    let few = few_channels (lists c.args.parts) c.requires.trap in
    rw (c.as_slice-3.ensures.value, c.in_ok-channels.ensures) (omega (arith, few))

pub invariant_of-result : goal.invariant_of-result
invariant_of-result c =
    let count = ap length c.in_ok-slots.ensures ∙ length-slots_from 0 c.args.parts.segments.items in
    let places : c.len.result + c.len-2.result ≡ place_count (lists c.args.parts) = omega (arith, count, c.in_ok-slots.slots.ok.0, c.args.parts.zones.ok.0) in
    let zones : c.len-3.result ≡ length c.args.parts.zones.items = c.len-3.ensures ∙ c.args.parts.zones.ok.0 in
    record {
      sound = c.requires.trap;
      all_slots = c.in_ok-slots.ensures;
      of_segments = c.in_ok-firsts.ensures;
      all_channels = c.in_ok-channels.ensures;
      of_zones = rw (c.as_slice-2.ensures.value, c.in_ok-channels.ensures, zones) at c.in_ok-doors.ensures;
      of_places = rw (c.as_slice-3.ensures.value, c.in_ok-channels.ensures, places) at c.in_ok-steps.ensures;
      of_junctions = rw (c.as_slice-4.ensures.value, c.in_ok-channels.ensures, c.len-4.ensures ∙ c.args.parts.junctions.ok.0) at c.in_ok-passages.ensures;
    }
