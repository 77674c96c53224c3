use Rattle.std.proofs.Common.{◌≡◌, ◌++◌, drop}
use Rattle.std.specs.Prelude.{filter}
use Rattle.step_vars.specs.ChannelTests.{passes}
use Rattle.clause_families.specs.Clauses.{passing}
use Rattle.clause_families.proofs.lists.channels_where.Given as goal

abbrev pub invariant-loop-channel : goal.invariant-loop-channel
invariant-loop-channel l = l.list.items ++ (filter (passing (passes l.test)) (drop l.channel-index l.channels)) ≡ (filter (passing (passes l.test)) l.channels)
