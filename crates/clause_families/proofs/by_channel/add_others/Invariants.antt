use Rattle.std.proofs.Common.{◌≡◌, ◌==◌, ◌++◌, drop, map, not}
use Rattle.std.specs.Prelude.{filter}
use Rattle.clause_families.specs.Clauses.{by_two_ions}
use Rattle.clause_families.proofs.by_channel.add_others.Given as goal

abbrev pub invariant-loop-other : goal.invariant-loop-other
invariant-loop-other l = l.out ++ map (by_two_ions l.rule l.times.before l.times.time l.c l.ion) (filter (λ j. not (j == l.ion)) (drop l.other-index l.ions)) ≡ l.fn.out ++ map (by_two_ions l.rule l.times.before l.times.time l.c l.ion) (filter (λ j. not (j == l.ion)) l.ions)
