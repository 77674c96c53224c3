use Rattle.std.proofs.Common.{◌≡◌, ◌+◌, ◌-◌, drop, take}
use Rattle.std.specs.List.{position_from}
use Rattle.trap_model.specs.Channels.{is_cross}
use Rattle.trap_model.proofs.tables.cross_number.Given as goal

-- none of the channels before is it
abbrev pub invariant-loop-k : goal.invariant-loop-k
invariant-loop-k l =
    let near = take (l.passage.«end» - l.passage.first) (drop l.passage.first l.channels) in
    position_from (is_cross l.junction l.from l.to) (l.passage.first + l.k) (drop l.k near) ≡ position_from (is_cross l.junction l.from l.to) 0 l.channels
