use Rattle.std.proofs.Common.{◌≡◌, ◌++◌, drop}
use Rattle.std.specs.Prelude.{filter}
use Rattle.step_rules.specs.Guards.{is_able_for}
use Rattle.clause_families.proofs.lists.ops_of.Given as goal

abbrev pub invariant-loop-op : goal.invariant-loop-op
invariant-loop-op l = l.able.items ++ (filter (is_able_for l.setting l.zone) (drop l.op-index l.ops)) ≡ (filter (is_able_for l.setting l.zone) l.ops)
