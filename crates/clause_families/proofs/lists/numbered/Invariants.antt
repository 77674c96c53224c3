use Rattle.std.proofs.Common.{◌≡◌, ◌++◌, drop}
use Rattle.step_vars.specs.Lists.{numbered_from}
use Rattle.clause_families.proofs.lists.numbered.Given as goal

abbrev pub invariant-loop-number : goal.invariant-loop-number
invariant-loop-number l = l.list.items ++ numbered_from l.number (drop l.number l.channels) ≡ numbered_from 0 l.channels
