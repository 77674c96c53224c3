use Rattle.std.proofs.Common.{◌≡◌, ◌++◌, drop}
use Rattle.std.specs.List.{flat_map}
use Rattle.step_clauses.specs.Operations.{stays_done}
use Rattle.step_clauses.proofs.operations.add_all_done.Given as goal

abbrev pub invariant-loop-op : goal.invariant-loop-op
invariant-loop-op l = l.out ++ flat_map (stays_done l.setting l.times.before l.times.time) (drop l.op-index l.ops) ≡ l.fn.out ++ flat_map (stays_done l.setting l.times.before l.times.time) l.ops
