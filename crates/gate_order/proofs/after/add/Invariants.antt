use Rattle.gate_order.specs.Keeping.{AreAdded}
use Rattle.gate_order.proofs.after.add.Given as goal

-- the number is in the lists of those so far
abbrev pub invariant-loop-before : goal.invariant-loop-before
invariant-loop-before l = AreAdded l.near l.before-index l.number l.initial.lists l.lists
