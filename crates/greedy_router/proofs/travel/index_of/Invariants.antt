use Rattle.std.proofs.Common.{◌≤◌, drop}
use Rattle.greedy_router.specs.Places.{count_of}
use Rattle.greedy_router.proofs.travel.index_of.Given as goal

abbrev pub invariant-loop-index : goal.invariant-loop-index
invariant-loop-index l = 1 ≤ count_of l.ion.0 (drop l.index l.ions)
