use Rattle.std.proofs.Common.{length}
use Rattle.ion_chain.specs.Transfer.{list_at}
use Rattle.greedy_router.specs.Traffic.{Frees}
use Rattle.greedy_router.proofs.traffic.Traffic.free_zone.Given as goal

abbrev pub invariant-loop-zone : goal.invariant-loop-zone
invariant-loop-zone l = Frees l.map.setting l.initial.self l.self

abbrev pub decreases-loop-zone : goal.decreases-loop-zone
decreases-loop-zone l = length (list_at l.self.played.config.lists l.zone.0)
