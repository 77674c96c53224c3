use Rattle.std.proofs.Common.{◌≡◌, ◌++◌, drop, map}
use Rattle.clause_families.specs.Clauses.{by_ion}
use Rattle.clause_families.proofs.by_channel.add_ions.Given as goal

abbrev pub invariant-loop-ion : goal.invariant-loop-ion
invariant-loop-ion l = l.out ++ map (by_ion l.rule l.times.before l.times.time l.c) (drop l.ion-index l.ions) ≡ l.fn.out ++ map (by_ion l.rule l.times.before l.times.time l.c) l.ions
