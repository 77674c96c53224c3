use Rattle.std.proofs.Common.{◌≡◌, ◌++◌, drop}
use Rattle.std.specs.List.{flat_map}
use Rattle.trap_model.specs.Channels.{cross_channels}
use Rattle.trap_model.proofs.layout.push_arm.Given as goal

-- the channels so far, and the rest
abbrev pub invariant-loop-to : goal.invariant-loop-to
invariant-loop-to l = l.channels.items ++ flat_map (cross_channels l.junction l.from) (drop l.to-index l.arms) ≡ l.fn.channels.items ++ flat_map (cross_channels l.junction l.from) l.arms
