use Rattle.std.proofs.Common.{◌≡◌, ◌++◌, drop}
use Rattle.std.specs.List.{flat_map}
use Rattle.clause_families.specs.Clauses.{by_pair}
use Rattle.clause_families.proofs.by_pair.add_pairs.Given as goal

abbrev pub invariant-loop-pair : goal.invariant-loop-pair
invariant-loop-pair l = l.out ++ flat_map (by_pair l.rule l.ions l.times.before l.times.time l.place) (drop l.pair-index l.pairs) ≡ l.fn.out ++ flat_map (by_pair l.rule l.ions l.times.before l.times.time l.place) l.pairs
