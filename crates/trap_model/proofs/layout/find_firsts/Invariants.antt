use Rattle.std.proofs.Common.{◌≡◌, ◌+◌, ◌++◌, drop, length}
use Rattle.trap_parts.specs.Parts.{slot_count}
use Rattle.trap_parts.specs.Joins.{firsts_from}
use Rattle.trap_model.proofs.layout.find_firsts.Given as goal

-- the places so far, and the rest
abbrev pub invariant-loop-segment : goal.invariant-loop-segment
invariant-loop-segment l = record {
  counted : l.place + slot_count (drop l.segment-index l.parts.segments.items) ≡ length l.parts.zones.items + slot_count l.parts.segments.items;
  rest : l.firsts.items ++ firsts_from l.place (drop l.segment-index l.parts.segments.items) ≡ firsts_from (length l.parts.zones.items) l.parts.segments.items;
}
