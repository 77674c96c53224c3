use Rattle.std.proofs.Common.{◌≡◌, drop}
use Rattle.step_vars.specs.Lists.{is_before}
use Rattle.step_clauses.proofs.start.is_earlier.Given as goal

abbrev pub invariant-loop-index : goal.invariant-loop-index
invariant-loop-index l = is_before l.first l.second l.ions ≡ is_before l.first l.second (drop l.index l.ions)
