use Rattle.std.proofs.Common.{◌≡◌, ◌++◌, drop}
use Rattle.greedy_router.proofs.Beginning.{homes_from}
use Rattle.greedy_router.proofs.homes.homes.Given as goal

abbrev pub invariant-loop-zone : goal.invariant-loop-zone
invariant-loop-zone l = l.homes.items ++ homes_from l.zone (drop l.zone l.setting.placement) ≡ homes_from 0 l.setting.placement
