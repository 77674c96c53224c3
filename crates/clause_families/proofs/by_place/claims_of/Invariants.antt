use Rattle.std.proofs.Common.{◌≡◌, ◌++◌, drop, map}
use Rattle.step_vars.specs.Items.{so, leave_item}
use Rattle.clause_families.specs.Clauses.{was_or_passes}
use Rattle.clause_families.proofs.by_place.claims_of.Given as goal

abbrev pub invariant-loop-channel : goal.invariant-loop-channel
invariant-loop-channel l = l.claims.items ++ map (λ c. so (leave_item l.ion c l.step)) (drop l.channel-index l.place.channels) ≡ was_or_passes l.fn.times.0 l.fn.times.1 l.step l.ion l.place
