use Rattle.std.proofs.Common.{◌≡◌, ◌++◌, drop, map}
use Rattle.std.specs.List.{flat_map}
use Rattle.clause_families.specs.Clauses.{by_ion}
use Rattle.clause_families.proofs.by_channel.add_ions_at_channels.Given as goal

abbrev pub invariant-loop-c : goal.invariant-loop-c
invariant-loop-c l = l.out ++ flat_map (λ c. map (by_ion l.rule l.times.before l.times.time c) l.ions) (drop l.c-index l.channels) ≡ l.fn.out ++ flat_map (λ c. map (by_ion l.rule l.times.before l.times.time c) l.ions) l.channels
