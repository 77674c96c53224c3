use Rattle.std.proofs.Common.{◌≡◌, take, false}
use Rattle.std.specs.List.{list_any}
use Rattle.trap_model.specs.Channels.{is_through}
use Rattle.trap_model.proofs.tables.first_crossing.Given as goal

-- none of the channels before is one
abbrev pub invariant-loop-k : goal.invariant-loop-k
invariant-loop-k l = list_any (is_through l.junction) (take l.k l.channels) ≡ false
