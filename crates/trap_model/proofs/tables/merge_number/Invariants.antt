use Rattle.std.proofs.Common.{◌≡◌, drop}
use Rattle.std.specs.List.{position_from}
use Rattle.trap_model.specs.Channels.{is_merge}
use Rattle.trap_model.proofs.tables.merge_number.Given as goal

-- none of the channels before is it
abbrev pub invariant-loop-k : goal.invariant-loop-k
invariant-loop-k l = position_from (is_merge l.zone l.«end») l.k (drop l.k l.channels) ≡ position_from (is_merge l.zone l.«end») 0 l.channels
