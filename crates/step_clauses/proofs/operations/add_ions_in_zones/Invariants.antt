use Rattle.std.proofs.Common.{◌≡◌, ◌++◌, drop}
use Rattle.std.specs.List.{flat_map}
use Rattle.step_clauses.specs.Operations.{op_in_zones}
use Rattle.step_clauses.proofs.operations.add_ions_in_zones.Given as goal

abbrev pub invariant-loop-op : goal.invariant-loop-op
invariant-loop-op l = l.out ++ flat_map (op_in_zones l.setting l.times.before l.times.time l.ions) (drop l.op-index l.ops) ≡ l.fn.out ++ flat_map (op_in_zones l.setting l.times.before l.times.time l.ions) l.ops
