use Rattle.std.proofs.Common.{◌≡◌, ◌==◌, ◌++◌, drop, map, not}
use Rattle.std.specs.Prelude.{filter}
use Rattle.std.specs.List.{flat_map}
use Rattle.clause_families.specs.Clauses.{by_two_ions}
use Rattle.clause_families.proofs.by_channel.add_two_ions_at_channels.Given as goal

abbrev pub invariant-loop-c : goal.invariant-loop-c
invariant-loop-c l = l.out ++ flat_map (λ c. flat_map (λ i. map (by_two_ions l.rule l.times.before l.times.time c i) (filter (λ j. not (j == i)) l.ions)) l.ions) (drop l.c-index l.channels) ≡ l.fn.out ++ flat_map (λ c. flat_map (λ i. map (by_two_ions l.rule l.times.before l.times.time c i) (filter (λ j. not (j == i)) l.ions)) l.ions) l.channels
