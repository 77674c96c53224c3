use Rattle.std.proofs.Common.{◌≡◌, ◌++◌, drop, map}
use Rattle.step_clauses.specs.Operations.{goal_needs}
use Rattle.step_clauses.proofs.operations.add_goal.Given as goal

abbrev pub invariant-loop-op : goal.invariant-loop-op
invariant-loop-op l = l.out ++ map (goal_needs l.time) (drop l.op-index l.ops) ≡ l.fn.out ++ map (goal_needs l.time) l.ops
