use Rattle.std.proofs.Common.{◌≢◌, take}
use Rattle.sat_base.specs.Literal.{Literal, negated}
use Rattle.sat_base.specs.Clauses.{Has}
use Rattle.solver_trail.specs.Trail.{literals_of}
use Rattle.cdcl.proofs.propagation.free_literal.Given as goal

abbrev pub invariant-loop-literal : goal.invariant-loop-literal
invariant-loop-literal l = (literal : Literal) → Has (take l.literal-index l.clause) literal → literal ≢ l.except → Has (literals_of l.values.entries) (negated literal)
