use Rattle.std.proofs.Common.{◌≡◌, ◌++◌, drop, map}
use Rattle.step_clauses.specs.Start.{undone}
use Rattle.step_clauses.proofs.start.add_undone.Given as goal

abbrev pub invariant-loop-op : goal.invariant-loop-op
invariant-loop-op l = l.out ++ map undone (drop l.op-index l.ops) ≡ l.fn.out ++ map undone l.ops
