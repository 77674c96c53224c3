-- What a contract sees of a solver, and what its calls answer.
use Rattle.std.specs.Prelude.{◌≡◌, ℕ, ◌+◌, ◌<◌, ◌≤◌, Bool, true, false, IsTrue, IsSome, List, [], ◌∷◌, ◌++◌, ◌⊎◌, length, All}
use Rattle.sat_base.specs.Literal.{Literal}
use Rattle.sat_base.specs.Clauses.{NameOnly}
use Rattle.sat_base.specs.Truth.{is_true, Satisfies}
use Rattle.sat_base.specs.Derivation.{Refutes, AnyRefutes}
use Rattle.sat_base.specs.Fresh.{IsFreshOver}
use Rattle.derivation_log.specs.Log.{Lines, Derived, log_of, IsLine, clause_of, clauses_of}
use Rattle.derivation_log.specs.declared.line_id.LineId.{LineId}
use Rattle.cdcl.specs.Clauses.{clauses_in}
use Rattle.solver_trail.specs.Trail.{Trail, literals_of, up_to, back_to, values_of, AreForced, IsClosed, IsFalse}
use Rattle.solver_trail.specs.declared.values.Assigned.{Assigned}
use Rattle.cdcl.specs.declared.verdict.Verdict.{Verdict}
use Rattle.cdcl.specs.declared.verdict.Verdict.TheVariants.{Model, Refuted, Spent}

-- the clauses that were added and the lines that were derived, the trail, and whether memory ran out
pub record SolverState : Type 0 where
  pub log : Lines
  pub trail : Trail
  pub failed : Bool

-- no variables and no clauses
abbrev pub empty_solver : SolverState
empty_solver = record {
  log = log_of [] [];
  trail = record { vars = 0; level = 0; entries = [] };
  failed = false;
}

-- the solver with another trail
abbrev pub with_trail : Trail → SolverState → SolverState
with_trail trail solver = record { log = solver.log; trail = trail; failed = solver.failed }

-- the solver with so many more variables, unassigned
abbrev pub with_vars : ℕ → SolverState → SolverState
with_vars count solver =
    let trail = solver.trail in
    with_trail (record { vars = trail.vars + count; level = trail.level; entries = trail.entries }) solver

-- the solver with one clause more, at level 0
abbrev pub with_clause : List Literal → SolverState → SolverState
with_clause clause solver = record {
  log = log_of (solver.log.axioms ++ clause ∷ []) solver.log.derived;
  trail = back_to 0 solver.trail;
  failed = solver.failed;
}

-- memory ran out, and all else stays
abbrev pub out_of_memory : SolverState → SolverState
out_of_memory solver = record { log = solver.log; trail = solver.trail; failed = true }

-- ---- propagation

-- The trail only grows, at the current level, by literals that are each forced by a line: its other literals are
-- all false by earlier ones.
pub record Propagates (log : Lines) (old new : Trail) : Type 0 where
  pub added : List Assigned
  pub grows : new ≡ record old { entries = old.entries ++ added }
  pub current : All (λ (entry : Assigned). (entry.level ≡ old.level) × IsSome entry.reason) added
  pub forced : AreForced log old.entries added

-- a line of the log that is false
pub record IsFalsified (log : Lines) (trail : Trail) (line : LineId) : Type 0 where
  pub is_line : IsLine log line
  pub falsified : IsFalse (literals_of trail.entries) (clause_of log line)

-- ---- verdicts

-- each line is fresh over the clauses before it or refutes the goal, and no line is after one that refutes it
abbrev pub AreLearnt : List (List Literal) → Literal → List (List Literal) → Type 0
AreLearnt clauses goal [] = Unit {0}
AreLearnt clauses goal (line ∷ lines) =
    (IsFreshOver clauses line ⊎ Refutes goal line)
    × (Refutes goal line → lines ≡ [])
    × AreLearnt (clauses ++ line ∷ []) goal lines

-- The axioms and the earlier lines of the log stay, and learnt lines are added; none where an earlier line
-- refutes the goal.
pub record Learns (old new : Lines) (goal : Literal) : Type 0 where
  pub lines : List Derived
  pub added : new ≡ log_of old.axioms (old.derived ++ lines)
  pub learnt : AreLearnt (clauses_in old) goal (clauses_of lines)
  pub needed : AnyRefutes goal (clauses_of old.derived) → lines ≡ []

-- a derived line of the log that refutes the goal
pub record IsRefuting (log : Lines) (goal : Literal) (line : LineId) : Type 0 where
  pub derived : line.derived ≡ true
  pub is_line : IsLine log line
  pub refutes : Refutes goal (clause_of log line)

-- the values satisfy each clause that was added, and make the assumption true
pub record IsModel (solver : SolverState) (assumption : Literal) : Type 0 where
  pub clauses : Satisfies (values_of solver.trail.entries) solver.log.axioms
  pub goal : IsTrue (is_true (values_of solver.trail.entries) assumption)

-- there are exactly so many derived lines, and none of them refutes the goal
pub record IsSpent (log : Lines) (goal : Literal) (budget : ℕ) : Type 0 where
  pub spent : length log.derived ≡ budget
  pub none : AnyRefutes goal (clauses_of log.derived) → ⊥

-- what a verdict says
abbrev pub IsVerdict : SolverState → Literal → ℕ → Verdict → Type 0
IsVerdict solver goal budget Model = IsModel solver goal
IsVerdict solver goal budget (Refuted line) = IsRefuting solver.log goal line
IsVerdict solver goal budget Spent = IsSpent solver.log goal budget

-- ---- working notions of private functions

-- What holds of each solver: clauses name variables of the solver alone; each literal on the trail is a decision
-- or is forced by a line; and propagation was complete at the end of each level below the current one.
pub record IsSound (log : Lines) (trail : Trail) : Type 0 where
  pub named : NameOnly (λ var. var ≤ trail.vars) (clauses_in log)
  pub counted : NameOnly (λ var. 1 ≤ var) (clauses_in log)
  pub forced : AreForced log [] trail.entries
  pub closed : (level : ℕ) → level < trail.level
      → IsClosed (literals_of (up_to level trail.entries)) (clauses_in log)
