-- Working notions of private functions: the analysis of a conflict, and the clause that it builds.
use Rattle.std.specs.Prelude.{◌≡◌, ◌≢◌, ℕ, ◌<◌, ◌≤◌, Some, IsSome, List, [], ◌∷◌, ◌++◌, ◌⊎◌, All}
use Rattle.sat_base.specs.Literal.{Literal, negated}
use Rattle.sat_base.specs.Clauses.{Has}
use Rattle.sat_base.specs.Resolution.{Leads, ResolveTo, IsJoined}
use Rattle.sat_base.specs.Fresh.{IsOpen}
use Rattle.derivation_log.specs.Log.{Lines, IsLine, clause_of, chain_of}
use Rattle.derivation_log.specs.declared.line_id.LineId.{LineId}
use Rattle.solver_trail.specs.declared.values.Assigned.{Assigned}
use Rattle.solver_trail.specs.Trail.{Trail, literals_of, up_to, IsFalse, IsFalseAt}

-- a clause, and the lines that it comes from, in the order of resolution
pub record Chained : Type 0 where
  pub clause : List Literal
  pub chain : List LineId

-- The lines of the chain resolve to the clause, and the variables that were taken out are not among those of the
-- set.
pub record IsResolved (log : Lines) (set : List Literal) (chained : Chained) : Type 0 where
  pub named : All (IsLine log) chained.chain
  pub taken : List Literal
  pub apart : (pivot : Literal) → Has taken pivot → IsOpen set pivot
  pub leads : (further : List (List Literal)) (clause : List Literal)
      → Leads (record { clause = chained.clause; taken = taken }) further clause
      → ResolveTo (chain_of log chained.chain ++ further) clause

-- no literal of the clause is true
abbrev pub HasNoTrue : List Literal → List Literal → Type 0
HasNoTrue set clause = (literal : Literal) → Has clause literal → Has set literal → ⊥

-- another literal of the clause is false at that level
pub record HasAnotherAt (entries : List Assigned) (level : ℕ) (clause : List Literal) (literal : Literal)
    : Type 0 where
  pub other : Literal
  pub has : Has clause other
  pub different : other ≢ literal
  pub at : IsFalseAt entries level other

-- it is the only literal of the clause that is false at that level: the negated first unique implication point
pub record IsAsserting (entries : List Assigned) (level : ℕ) (clause : List Literal) (literal : Literal)
    : Type 0 where
  pub has : Has clause literal
  pub at : IsFalseAt entries level literal
  pub only : (other : Literal) → Has clause other → IsFalseAt entries level other → other ≡ literal

-- at the current level, another literal of the clause is false than the one that is false by the entry
abbrev pub HasAnother : Trail → List Literal → Assigned → Type 0
HasAnother trail clause entry = HasAnotherAt trail.entries trail.level clause (negated entry.literal)

-- The literal of the clause that is false by the entry may be taken out by the line that forced the entry: at the
-- current level another one is left.
pub record CanResolve (trail : Trail) (clause : List Literal) (entry : Assigned) (line : LineId) : Type 0 where
  pub reason : entry.reason ≡ Some line
  pub had : Has clause (negated entry.literal)
  pub another : 1 ≤ trail.level → entry.level ≡ trail.level → HasAnother trail clause entry

-- It is kept: the entry is a decision, or is above level 0 and, where it is of the current level, the only one.
pub record IsKept (trail : Trail) (clause : List Literal) (entry : Assigned) : Type 0 where
  pub above : IsSome entry.reason → 1 ≤ entry.level
  pub alone : IsSome entry.reason → entry.level ≡ trail.level → HasAnother trail clause entry → ⊥

-- the literal is taken out by the line that forced the entry
pub record IsTakenOut (log : Lines) (trail : Trail) (entry : Assigned) (old new : Chained) : Type 0 where
  pub line : LineId
  pub can : CanResolve trail old.clause entry line
  pub joined : IsJoined old.clause (clause_of log line) entry.literal new.clause
  pub chain : new.chain ≡ old.chain ++ line ∷ []

-- the literal is not in the clause, or is kept
pub record IsUntouched (trail : Trail) (entry : Assigned) (old new : Chained) : Type 0 where
  pub same : new ≡ old
  pub kept : Has old.clause (negated entry.literal) → IsKept trail old.clause entry

-- an entry was visited on the walk back
abbrev pub IsVisited : Lines → Trail → Assigned → Chained → Chained → Type 0
IsVisited log trail entry old new = IsTakenOut log trail entry old new ⊎ IsUntouched trail entry old new

-- What the walk back over the first entries of a trail comes to: the chain resolves to the clause, whose literals
-- are old ones or false; none is false at level 0; and where the walk began at the trail's end, exactly one of
-- the current level is left if there was one.
pub record IsReduced (log : Lines) (trail : Trail) (entries : List Assigned) (old : List Literal) (new : Chained)
    : Type 0 where
  pub named : All (IsLine log) new.chain
  pub resolve : ResolveTo (chain_of log new.chain) new.clause
  pub parts : (literal : Literal) → Has new.clause literal
      → Has old literal ⊎ Has (literals_of entries) (negated literal)
  pub above : (literal : Literal) → Has new.clause literal → IsFalseAt entries 0 literal → ⊥
  pub asserting : 1 ≤ trail.level → entries ≡ trail.entries
      → (literal : Literal) → Has old literal → IsFalseAt entries trail.level literal
      → (last : Literal) × IsAsserting entries trail.level new.clause last

-- the lines of the chain resolve to the clause, all of whose literals are false
pub record IsResolvent (log : Lines) (entries : List Assigned) (new : Chained) : Type 0 where
  pub named : All (IsLine log) new.chain
  pub resolve : ResolveTo (chain_of log new.chain) new.clause
  pub falsified : IsFalse (literals_of entries) new.clause

-- The literal is the only one of its level, the others are false up to the target level, and one of them at that
-- level where it is above 0.
pub record IsTarget (entries : List Assigned) (level : ℕ) (clause : List Literal) (literal : Literal) (target : ℕ)
    : Type 0 where
  pub asserting : IsAsserting entries level clause literal
  pub below : target < level
  pub others : (other : Literal) → Has clause other → other ≢ literal
      → Has (literals_of (up_to target entries)) (negated other)
  pub reached : 1 ≤ target → HasAnotherAt entries target clause literal
