use Rattle.std.proofs.Common.{◌≡◌, ◌+◌, ◌*◌, ◌^◌, ◌≤◌, drop}
use Rattle.trap_parts.specs.Parts.{slot_count}
use Rattle.trap_parts.proofs.parts.TrapParts.slot_count.Given as goal

-- the slots so far, and the rest
abbrev pub invariant-loop-segment : goal.invariant-loop-segment
invariant-loop-segment l = record {
  bounded : l.count ≤ 2 ^ 32 * l.segment-index;
  rest : l.count + slot_count (drop l.segment-index l.self.segments.items) ≡ slot_count l.self.segments.items;
}
