use Rattle.std.proofs.Common.{◌≡◌, ◌==◌, ◌++◌, drop, map, not}
use Rattle.std.specs.Prelude.{filter}
use Rattle.std.specs.List.{flat_map}
use Rattle.clause_families.specs.Clauses.{by_two_ions}
use Rattle.clause_families.proofs.by_channel.add_all_others.Given as goal

abbrev pub invariant-loop-ion : goal.invariant-loop-ion
invariant-loop-ion l = l.out ++ flat_map (λ i. map (by_two_ions l.rule l.times.before l.times.time l.c i) (filter (λ j. not (j == i)) l.ions)) (drop l.ion-index l.ions) ≡ l.fn.out ++ flat_map (λ i. map (by_two_ions l.rule l.times.before l.times.time l.c i) (filter (λ j. not (j == i)) l.ions)) l.ions
