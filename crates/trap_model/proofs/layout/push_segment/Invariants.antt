use Rattle.std.proofs.Common.{◌≡◌, ◌++◌}
use Rattle.std.specs.List.{flat_map, range_with_len}
use Rattle.trap_model.specs.Channels.{move_channels}
use Rattle.trap_model.proofs.layout.push_segment.Given as goal

-- the channels of the pairs so far
abbrev pub invariant-loop-k : goal.invariant-loop-k
invariant-loop-k l = l.channels.items ≡ l.fn.channels.items ++ flat_map move_channels (range_with_len l.place l.k)
