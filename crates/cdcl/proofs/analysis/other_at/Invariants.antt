use Rattle.std.proofs.Common.{◌≢◌, take}
use Rattle.sat_base.specs.Literal.{Literal}
use Rattle.sat_base.specs.Clauses.{Has}
use Rattle.cdcl.proofs.analysis.other_at.Given as goal
use Rattle.solver_trail.specs.Trail.{IsFalseAt}

abbrev pub invariant-loop-other : goal.invariant-loop-other
invariant-loop-other l = (other : Literal) → Has (take l.other-index l.clause) other → other ≢ l.literal → IsFalseAt l.values.entries l.level other → ⊥
