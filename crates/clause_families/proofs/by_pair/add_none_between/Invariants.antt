use Rattle.std.proofs.Common.{◌≡◌, ◌==◌, ◌&&◌, ◌++◌, drop, not}
use Rattle.std.specs.Prelude.{filter}
use Rattle.std.specs.List.{flat_map}
use Rattle.step_vars.specs.Families.{none_between}
use Rattle.clause_families.proofs.by_pair.add_none_between.Given as goal

abbrev pub invariant-loop-third : goal.invariant-loop-third
invariant-loop-third l = l.out ++ flat_map (none_between l.times.before l.times.time l.zone l.pair) (filter (λ k. not (k == l.pair.row) && not (k == l.pair.col)) (drop l.third-index l.ions)) ≡ l.fn.out ++ flat_map (none_between l.times.before l.times.time l.zone l.pair) (filter (λ k. not (k == l.pair.row) && not (k == l.pair.col)) l.ions)
