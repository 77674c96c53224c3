use Rattle.std.proofs.Common.{◌≡◌, ◌+◌, ◌++◌, drop, length}
use Rattle.trap_parts.specs.Parts.{slot_count}
use Rattle.trap_model.specs.Channels.{moves_from}
use Rattle.trap_model.proofs.layout.push_moves.Given as goal

-- the channels so far, and the rest
abbrev pub invariant-loop-segment : goal.invariant-loop-segment
invariant-loop-segment l = record {
  counted : l.place + slot_count (drop l.segment-index l.parts.segments.items) ≡ length l.parts.zones.items + slot_count l.parts.segments.items;
  rest : l.channels.items ++ moves_from l.place (drop l.segment-index l.parts.segments.items) ≡ l.fn.channels.items ++ moves_from (length l.parts.zones.items) l.parts.segments.items;
}
