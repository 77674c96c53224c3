use Rattle.std.proofs.Common.{◌≡◌, ◌++◌, drop, map}
use Rattle.step_vars.specs.Items.{so, leave_item}
use Rattle.clause_families.specs.Clauses.{passers}
use Rattle.clause_families.proofs.by_channel.passers_of.Given as goal

abbrev pub invariant-loop-ion : goal.invariant-loop-ion
invariant-loop-ion l = l.claims.items ++ map (λ i. so (leave_item i l.c.number l.time)) (drop l.ion-index l.ions) ≡ passers l.time l.ions l.c
