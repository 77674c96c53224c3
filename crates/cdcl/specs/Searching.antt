-- Working notions of private functions: the search, and what comes of a conflict.
use Rattle.std.specs.Prelude.{◌≡◌, ℕ, ◌+◌, ◌<◌, ◌≤◌, ◌⊎◌, List, [], ◌∷◌, ◌++◌, length}
use Rattle.sat_base.specs.Literal.{Literal, negated}
use Rattle.sat_base.specs.Clauses.{Has}
use Rattle.sat_base.specs.Derivation.{Refutes}
use Rattle.sat_base.specs.Fresh.{IsOpen, IsFreshOver}
use Rattle.derivation_log.specs.Log.{Lines, Derived, log_of, derived_id}
use Rattle.derivation_log.specs.declared.line_id.LineId.{LineId}
use Rattle.cdcl.specs.Clauses.{clauses_in}
use Rattle.solver_trail.specs.Trail.{Trail, literals_of, up_to, IsUnassigned}
use Rattle.cdcl.specs.Solver.{SolverState, IsFalsified, IsModel}
use Rattle.cdcl.specs.declared.solver.Conflict.{Conflict}
use Rattle.cdcl.specs.declared.solver.Conflict.TheVariants.{Falsified, Denied}
use Rattle.cdcl.specs.declared.solver.Choice.{Choice}
use Rattle.cdcl.specs.declared.solver.Choice.TheVariants.{Denied as ChoiceDenied, Nothing, Decided as ChoiceDecided}
use Rattle.cdcl.specs.declared.solver.Deepened.{Deepened}
use Rattle.cdcl.specs.declared.solver.Deepened.TheVariants.{Conflict as AConflict, Complete, Decided}

-- the assumption is the first decision, or true at level 0: above level 0 it is true at level 1
abbrev pub IsAssumed : Literal → Trail → Type 0
IsAssumed assumption trail = 1 ≤ trail.level → Has (literals_of (up_to 1 trail.entries)) assumption

-- nothing but the trail changes, and the variables stay
pub record ChangesTrailOnly (old new : SolverState) : Type 0 where
  pub log : new.log ≡ old.log
  pub vars : new.trail.vars ≡ old.trail.vars
  pub failed : new.failed ≡ old.failed

-- the assumption is false at level 0
pub record IsDenied (trail : Trail) (assumption : Literal) : Type 0 where
  pub level : trail.level ≡ 0
  pub denied : Has (literals_of trail.entries) (negated assumption)

-- what a conflict says
abbrev pub IsConflict : SolverState → Literal → Conflict → Type 0
IsConflict solver assumption (Falsified line) = IsFalsified solver.log solver.trail line
IsConflict solver assumption Denied = IsDenied solver.trail assumption

-- the assumption is false; or it is true and no variable is left; or a literal may be decided: the assumption, or
-- another one after it
abbrev pub IsChosen : Trail → Literal → Choice → Type 0
IsChosen trail assumption ChoiceDenied = Has (literals_of trail.entries) (negated assumption)
IsChosen trail assumption Nothing =
    Has (literals_of trail.entries) assumption × ((var : ℕ) → IsUnassigned trail var → ⊥)
IsChosen trail assumption (ChoiceDecided literal) = IsOpen (literals_of trail.entries) literal
    × (literal.var ≤ trail.vars)
    × ((literal ≡ assumption) ⊎ Has (literals_of trail.entries) assumption)

-- what propagation and a decision come to
abbrev pub IsDeepened : SolverState → SolverState → Literal → Deepened → Type 0
IsDeepened old new assumption (AConflict conflict) = IsConflict new assumption conflict
IsDeepened old new assumption Complete = IsModel new assumption
IsDeepened old new assumption Decided = (length old.trail.entries < length new.trail.entries)
    × (length new.trail.entries ≤ new.trail.vars)

-- at most one literal of the clause is not false
abbrev pub HasOneLeft : List Literal → List Literal → Type 0
HasOneLeft set clause = (a b : Literal) → Has clause a → Has clause b
    → (Has set (negated a) → ⊥) → (Has set (negated b) → ⊥) → a ≡ b

-- the log has one derived line more, of that name
pub record AddsLine (old new : Lines) (line : LineId) : Type 0 where
  pub derived : Derived
  pub is : line ≡ derived_id (length old.derived + 1)
  pub added : new ≡ log_of old.axioms (old.derived ++ derived ∷ [])

-- the line is fresh over the clauses before it, or refutes the goal
abbrev pub IsLearnt : Lines → Literal → List Literal → Type 0
IsLearnt log goal line = IsFreshOver (clauses_in log) line ⊎ Refutes goal line

-- its literals are of the clause, and none of them is false
pub record IsRest (set clause line : List Literal) : Type 0 where
  pub within : (literal : Literal) → Has line literal → Has clause literal
  pub left : (literal : Literal) → Has line literal → Has set (negated literal) → ⊥
