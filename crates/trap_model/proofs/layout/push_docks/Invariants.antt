use Rattle.std.proofs.Common.{◌≡◌, ◌++◌, drop}
use Rattle.std.specs.List.{flat_map}
use Rattle.trap_parts.specs.Parts.{lists}
use Rattle.trap_model.specs.Channels.{dock_channels}
use Rattle.trap_model.proofs.layout.push_docks.Given as goal

-- the channels so far, and the rest
abbrev pub invariant-loop-link : goal.invariant-loop-link
invariant-loop-link l = l.channels.items ++ flat_map (dock_channels (lists l.parts)) (drop l.link-index l.links) ≡ l.fn.channels.items ++ flat_map (dock_channels (lists l.parts)) l.links
