use Rattle.std.proofs.Common.{◌≡◌, replicate, []}
use Rattle.gate_order.proofs.after.empty_lists.Given as goal

-- so many empty lists so far
abbrev pub invariant-loop-op : goal.invariant-loop-op
invariant-loop-op l = l.lists.items ≡ replicate l._op []
