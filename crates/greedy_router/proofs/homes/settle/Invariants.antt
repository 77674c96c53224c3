use Rattle.std.proofs.Common.{◌≡◌, ◌++◌, replicate}
use Rattle.greedy_router.proofs.homes.settle.Given as goal

abbrev pub invariant-loop-ion : goal.invariant-loop-ion
invariant-loop-ion l = l.homes.items ≡ l.initial.homes.items ++ replicate l._ion l.zone
