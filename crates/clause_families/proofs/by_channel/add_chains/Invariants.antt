use Rattle.std.proofs.Common.{◌≡◌, ◌++◌, drop}
use Rattle.std.specs.List.{flat_map}
use Rattle.clause_families.specs.Clauses.{by_passing_pair}
use Rattle.clause_families.proofs.by_channel.add_chains.Given as goal

abbrev pub invariant-loop-c : goal.invariant-loop-c
invariant-loop-c l = l.out ++ flat_map (λ c. flat_map (by_passing_pair l.times.before l.times.time c) l.pairs) (drop l.c-index l.channels) ≡ l.fn.out ++ flat_map (λ c. flat_map (by_passing_pair l.times.before l.times.time c) l.pairs) l.channels
