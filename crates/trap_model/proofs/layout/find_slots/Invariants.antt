use Rattle.std.proofs.Common.{◌≡◌, ◌++◌, drop}
use Rattle.trap_model.specs.Trap.{slots_from}
use Rattle.trap_model.proofs.layout.find_slots.Given as goal

-- the slots so far, and the rest
abbrev pub invariant-loop-k : goal.invariant-loop-k
invariant-loop-k l = l.slots.items ++ slots_from l.k (drop l.k l.parts.segments.items) ≡ slots_from 0 l.parts.segments.items
