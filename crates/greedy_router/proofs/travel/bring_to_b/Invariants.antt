use Rattle.std.proofs.Common.{◌≡◌, ◌-◌, Some}
use Rattle.std.specs.Prelude.{slice_get}
use Rattle.ion_chain.specs.Transfer.{list_at}
use Rattle.greedy_router.specs.Traffic.{Carries}
use Rattle.greedy_router.proofs.travel.bring_to_b.Given as goal

abbrev pub invariant-loop-index : goal.invariant-loop-index
invariant-loop-index l = record {
  carries : Carries l.setting l.initial.played l.played l.fn.ion.0 l.zone.0 l.zone.0;
  at : slice_get (list_at l.played.config.lists l.zone.0) l.index ≡ Some l.fn.ion;
}

abbrev pub decreases-loop-index : goal.decreases-loop-index
decreases-loop-index l = l.last - l.index
