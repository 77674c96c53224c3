use Rattle.std.proofs.Common.{◌≡◌, ◌++◌, drop}
use Rattle.std.specs.List.{flat_map}
use Rattle.clause_families.specs.Clauses.{by_passing_pair}
use Rattle.clause_families.proofs.by_channel.add_passing_pairs.Given as goal

abbrev pub invariant-loop-pair : goal.invariant-loop-pair
invariant-loop-pair l = l.out ++ flat_map (by_passing_pair l.times.before l.times.time l.c) (drop l.pair-index l.pairs) ≡ l.fn.out ++ flat_map (by_passing_pair l.times.before l.times.time l.c) l.pairs
