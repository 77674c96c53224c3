-- What a set of true literals makes of a literal and of a clause.
use Rattle.std.specs.Prelude.{Bool, true, false, Option, Some, None, List, ◌⊎◌}
use Rattle.sat_base.specs.Literal.{Literal, negated}
use Rattle.sat_base.specs.Clauses.{Has}
use Rattle.sat_base.specs.Fresh.{IsOpen, HasTrue, HasTwoOpen}
use Rattle.solver_trail.specs.Trail.{IsFalse, Forces}
use Rattle.solver_trail.specs.declared.status.Status.{Status}
use Rattle.solver_trail.specs.declared.status.Status.TheVariants.{Closed, Unit, Falsified}

-- the literal is unassigned, true or false
abbrev pub HasTruth : List Literal → Literal → Option Bool → Type 0
HasTruth set literal None = IsOpen set literal
HasTruth set literal (Some true) = Has set literal
HasTruth set literal (Some false) = Has set (negated literal)

-- an unassigned literal that the clause forces
pub record IsUnit (set clause : List Literal) (literal : Literal) : Type 0 where
  pub unassigned : IsOpen set literal
  pub forces : Forces set clause literal

-- what the clause is under the set
abbrev pub HasStatus : List Literal → List Literal → Status → Type 0
HasStatus set clause Closed = HasTrue set clause ⊎ HasTwoOpen set clause
HasStatus set clause (Unit literal) = IsUnit set clause literal
HasStatus set clause Falsified = IsFalse set clause
