use Rattle.gate_order.specs.Keeping.{AreAfter}
use Rattle.gate_order.proofs.after.after.Given as goal

-- the lists have the operations so far
abbrev pub invariant-loop-number : goal.invariant-loop-number
invariant-loop-number l = AreAfter l.nearest l.number l.lists.items
