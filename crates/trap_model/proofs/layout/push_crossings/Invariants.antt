use Rattle.std.proofs.Common.{◌≡◌, ◌++◌}
use Rattle.std.specs.List.{flat_map, range_with_len}
use Rattle.trap_parts.specs.Parts.{lists}
use Rattle.trap_model.specs.Channels.{crossings_of}
use Rattle.trap_model.proofs.layout.push_crossings.Given as goal

-- the channels of the junctions so far
abbrev pub invariant-loop-junction : goal.invariant-loop-junction
invariant-loop-junction l = l.channels.items ≡ l.fn.channels.items ++ flat_map (crossings_of (lists l.parts)) (range_with_len 0 l.junction)
