use Rattle.std.proofs.Common.{◌≡◌, drop}
use Rattle.std.specs.List.{position_from}
use Rattle.trap_model.specs.Channels.{is_move}
use Rattle.trap_model.proofs.tables.move_number.Given as goal

-- none of the channels before is it
abbrev pub invariant-loop-k : goal.invariant-loop-k
invariant-loop-k l = position_from (is_move l.from l.to) l.k (drop l.k l.channels) ≡ position_from (is_move l.from l.to) 0 l.channels
