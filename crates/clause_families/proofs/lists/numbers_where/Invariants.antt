use Rattle.std.proofs.Common.{◌≡◌, ◌++◌, drop, map}
use Rattle.std.specs.Prelude.{filter}
use Rattle.step_vars.specs.ChannelTests.{passes}
use Rattle.clause_families.specs.Clauses.{number_of, passing}
use Rattle.clause_families.proofs.lists.numbers_where.Given as goal

abbrev pub invariant-loop-channel : goal.invariant-loop-channel
invariant-loop-channel l = l.list.items ++ map number_of (filter (passing (passes l.test)) (drop l.channel-index l.channels)) ≡ map number_of (filter (passing (passes l.test)) l.channels)
