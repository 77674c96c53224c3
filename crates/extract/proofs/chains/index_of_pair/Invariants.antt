use Rattle.std.proofs.Common.{◌≡◌, ◌+◌, drop}
use Rattle.step_facts.specs.ToSchedule.{index_of_pair as index_of}
use Rattle.extract.proofs.chains.index_of_pair.Given as goal

abbrev pub invariant-loop-index : goal.invariant-loop-index
invariant-loop-index l =
    l.index + index_of l.first l.second (drop l.index l.ions) ≡ index_of l.first l.second l.ions
