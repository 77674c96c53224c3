use Rattle.std.proofs.Common.{◌≡◌, ◌++◌, drop, map}
use Rattle.clause_families.specs.Bounds.{acted}
use Rattle.clause_families.proofs.bounds.add_acts.Given as goal

abbrev pub invariant-loop-op : goal.invariant-loop-op
invariant-loop-op l = l.items.items ++ map (acted l.time l.zone) (drop l.op-index l.ops) ≡ l.fn.items.items ++ map (acted l.time l.zone) l.ops
