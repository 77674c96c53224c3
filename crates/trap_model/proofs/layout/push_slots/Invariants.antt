use Rattle.std.proofs.Common.{◌≡◌, ◌++◌, map}
use Rattle.std.specs.List.{range_with_len}
use Rattle.trap_model.specs.Trap.{slot}
use Rattle.trap_model.proofs.layout.push_slots.Given as goal

-- the slots below the index
abbrev pub invariant-loop-index : goal.invariant-loop-index
invariant-loop-index l = l.slots.items ≡ l.fn.slots.items ++ map (slot l.segment) (range_with_len 0 l.index)
