-- The trail: the assigned literals in order, each with its level and the line that forces it.
use Rattle.std.specs.Prelude.{◌≡◌, ◌≢◌, ℕ, ◌+◌, ◌≤◌, ◌==◌, if◌then◌else◌, nat_le, Bool, false, Option, Some, None, List, [], ◌∷◌, ◌++◌, ◌⊎◌, map, All}
use Rattle.sat_base.specs.Literal.{Literal, negated}
use Rattle.sat_base.specs.Clauses.{Has}
use Rattle.sat_base.specs.Truth.{Valuation}
use Rattle.sat_base.specs.Fresh.{IsOpen, HasTrue, HasTwoOpen}
use Rattle.derivation_log.specs.Log.{Lines, IsLine, clause_of}
use Rattle.derivation_log.specs.declared.line_id.LineId.{LineId}
use Rattle.solver_trail.specs.declared.values.Assigned.{Assigned}

-- what a contract sees of a partial assignment: its variables are 1 to vars
pub record Trail : Type 0 where
  pub vars : ℕ
  pub level : ℕ
  pub entries : List Assigned

-- the assigned literals, in order
abbrev pub literals_of : List Assigned → List Literal
literals_of entries = map (λ (entry : Assigned). entry.literal) entries

-- the entries of a level up to that one
abbrev pub up_to : ℕ → List Assigned → List Assigned
up_to level [] = []
up_to level (entry ∷ entries) =
    if nat_le entry.level level then entry ∷ up_to level entries else up_to level entries

-- the trail after going back to that level
abbrev pub back_to : ℕ → Trail → Trail
back_to level trail = record { vars = trail.vars; level = level; entries = up_to level trail.entries }

-- the value of a variable; none where it is unassigned
abbrev pub value_in : List Assigned → ℕ → Option Bool
value_in [] var = None
value_in (entry ∷ entries) var =
    if entry.literal.var == var then Some entry.literal.positive else value_in entries var

-- the assignment that gives the unassigned variables the value false
abbrev pub values_of : List Assigned → Valuation
values_of [] var = false
values_of (entry ∷ entries) var =
    if entry.literal.var == var then entry.literal.positive else values_of entries var

-- a variable without a value
pub record IsUnassigned (trail : Trail) (var : ℕ) : Type 0 where
  pub from_1 : 1 ≤ var
  pub within : var ≤ trail.vars
  pub none : value_in trail.entries var ≡ None

-- each literal of the clause is false where the literals of the set are true
abbrev pub IsFalse : List Literal → List Literal → Type 0
IsFalse set clause = (literal : Literal) → Has clause literal → Has set (negated literal)

-- the literal's negation was assigned at that level
abbrev pub IsFalseAt : List Assigned → ℕ → Literal → Type 0
IsFalseAt [] level literal = ⊥
IsFalseAt (entry ∷ entries) level literal =
    ((entry.literal ≡ negated literal) × (entry.level ≡ level)) ⊎ IsFalseAt entries level literal

-- the clause forces the literal: all its other literals are false
pub record Forces (set clause : List Literal) (literal : Literal) : Type 0 where
  pub has : Has clause literal
  pub others : (other : Literal) → Has clause other → other ≢ literal → Has set (negated other)

-- no clause is false, and none has one unassigned literal and all others false: each clause has a true literal
-- or two unassigned ones
abbrev pub IsClosed : List Literal → List (List Literal) → Type 0
IsClosed set clauses = All (λ clause. HasTrue set clause ⊎ HasTwoOpen set clause) clauses

-- ---- a trail entry by entry, each after those before it

-- the level of the last entry; 0 where there is none
abbrev pub last_level : List Assigned → ℕ
last_level [] = 0
last_level (entry ∷ []) = entry.level
last_level (entry ∷ next ∷ entries) = last_level (next ∷ entries)

-- a decision opens the next level, and a forced literal is of the current one
abbrev pub level_after : ℕ → Option LineId → ℕ
level_after level None = level + 1
level_after level (Some line) = level

-- the entry's variable is new, and its level follows from the last one
pub record IsNext (before : List Assigned) (entry : Assigned) : Type 0 where
  pub new_variable : IsOpen (literals_of before) entry.literal
  pub level : entry.level ≡ level_after (last_level before) entry.reason

-- each of the further entries follows those before it
abbrev pub AreInOrder : List Assigned → List Assigned → Type 0
AreInOrder before [] = Unit {0}
AreInOrder before (entry ∷ entries) = IsNext before entry × AreInOrder (before ++ entry ∷ []) entries

-- No variable is on the trail twice; each level from 1 to the current one begins with a decision, and all other
-- entries are forced.
pub record IsInOrder (trail : Trail) : Type 0 where
  pub entries : AreInOrder [] trail.entries
  pub current : trail.level ≡ last_level trail.entries

-- where there is a reason, it is a line of the log that forces the literal by the literals before
abbrev pub IsForced : Lines → List Assigned → Literal → Option LineId → Type 0
IsForced log before literal None = Unit {0}
IsForced log before literal (Some line) =
    IsLine log line × Forces (literals_of before) (clause_of log line) literal

-- each of the further entries is a decision or is forced by the literals before it
abbrev pub AreForced : Lines → List Assigned → List Assigned → Type 0
AreForced log before [] = Unit {0}
AreForced log before (entry ∷ entries) =
    IsForced log before entry.literal entry.reason × AreForced log (before ++ entry ∷ []) entries

-- the trail with a further literal
abbrev pub assigned : Trail → Literal → Option LineId → Trail
assigned trail literal reason =
    let level = level_after trail.level reason in
    let entry : Assigned = record { literal = literal; level = level; reason = reason } in
    record { vars = trail.vars; level = level; entries = trail.entries ++ entry ∷ [] }
