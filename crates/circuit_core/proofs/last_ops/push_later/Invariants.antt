use Rattle.std.proofs.Common.{◌≡◌, ◌++◌, take}
use Rattle.circuit_core.specs.LastOps.{later_than}
use Rattle.circuit_core.proofs.last_ops.push_later.Given as goal

abbrev pub invariant-loop-other : goal.invariant-loop-other
invariant-loop-other l = l.near.items ≡ l.initial.near.items ++ later_than l.first (take l.other-index l.others)
