use Rattle.std.proofs.Common.{◌≡◌, drop}
use Rattle.step_vars.specs.Lists.{is_there}
use Rattle.step_clauses.proofs.start.is_in.Given as goal

abbrev pub invariant-loop-other : goal.invariant-loop-other
invariant-loop-other l = is_there l.ion l.ions ≡ is_there l.ion (drop l.other-index l.ions)
