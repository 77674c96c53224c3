use Rattle.std.proofs.Common.{◌≡◌, ◌++◌, drop}
use Rattle.std.specs.List.{flat_map}
use Rattle.trap_model.specs.Channels.{cross_channels}
use Rattle.trap_model.proofs.layout.push_junction.Given as goal

-- the channels so far, and the rest
abbrev pub invariant-loop-from : goal.invariant-loop-from
invariant-loop-from l =
    l.channels.items ++ flat_map (λ from. flat_map (cross_channels l.junction from) l.arms) (drop l.from-index l.arms) ≡ l.fn.channels.items ++ flat_map (λ from. flat_map (cross_channels l.junction from) l.arms) l.arms
