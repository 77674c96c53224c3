use Rattle.std.proofs.Common.{◌≡◌, ◌++◌, drop, map}
use Rattle.clause_families.specs.Clauses.{passers}
use Rattle.clause_families.proofs.by_channel.add_passers.Given as goal

abbrev pub invariant-loop-c : goal.invariant-loop-c
invariant-loop-c l = l.out ++ map (passers l.time l.ions) (drop l.c-index l.channels) ≡ l.fn.out ++ map (passers l.time l.ions) l.channels
