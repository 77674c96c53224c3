use Rattle.std.proofs.Common.{◌≡◌, ◌++◌, drop, map}
use Rattle.clause_families.specs.Bounds.{one_activity}
use Rattle.clause_families.proofs.bounds.add_one_activities.Given as goal

abbrev pub invariant-loop-place : goal.invariant-loop-place
invariant-loop-place l = l.out.items ++ map (one_activity l.setting l.time l.tables.channels.items l.tables.pairs.now l.tables.ops.items) (drop l.place-index l.places) ≡ l.fn.out.items ++ map (one_activity l.setting l.time l.tables.channels.items l.tables.pairs.now l.tables.ops.items) l.places
