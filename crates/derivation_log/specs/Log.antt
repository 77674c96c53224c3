-- What a contract sees of a log of a derivation: axioms, and lines that follow from them by resolution.
use Rattle.std.specs.Prelude.{◌≡◌, ℕ, ◌-◌, ◌≤◌, true, false, if◌then◌else◌, List, [], ◌∷◌, ◌++◌, length, map, All, slice_index_or}
use Rattle.sat_base.specs.Literal.{Literal}
use Rattle.sat_base.specs.Clauses.{HaveDistinctVariables, clause_at}
use Rattle.sat_base.specs.Resolution.{ResolveTo}
use Rattle.sat_base.specs.Derivation.{IsAscending}
use Rattle.derivation_log.specs.declared.line_id.LineId.{LineId}

-- a derived line: its clause, and the lines that resolve to it, in order
pub record Derived : Type 0 where
  pub clause : List Literal
  pub hints : List LineId

-- the clauses that were given, and the lines that were derived, each in order
pub record Lines : Type 0 where
  pub axioms : List (List Literal)
  pub derived : List Derived

-- the log of these axioms and derived lines
abbrev pub log_of : List (List Literal) → List Derived → Lines
log_of axioms derived = record { axioms = axioms; derived = derived }

-- the axiom of that number
abbrev pub axiom_id : ℕ → LineId
axiom_id number = record { derived = false; number = number }

-- the derived line of that number
abbrev pub derived_id : ℕ → LineId
derived_id number = record { derived = true; number = number }

-- the clauses of derived lines
abbrev pub clauses_of : List Derived → List (List Literal)
clauses_of derived = map (λ (line : Derived). line.clause) derived

-- the log has the line
pub record IsLine (log : Lines) (line : LineId) : Type 0 where
  pub counted : 1 ≤ line.number
  pub within : line.number ≤ (if line.derived then length log.derived else length log.axioms)

-- the clause of a line
abbrev pub clause_of : Lines → LineId → List Literal
clause_of log line = clause_at (if line.derived then clauses_of log.derived else log.axioms) line.number

-- the hints of derived lines
abbrev pub hints_in : List Derived → List (List LineId)
hints_in derived = map (λ (line : Derived). line.hints) derived

-- the lines that a line was derived from; none for an axiom
abbrev pub hints_of : Lines → LineId → List LineId
hints_of log line = if line.derived then slice_index_or (hints_in log.derived) (line.number - 1) [] else []

-- the clauses of lines, in order
abbrev pub chain_of : Lines → List LineId → List (List Literal)
chain_of log chain = map (clause_of log) chain

-- the line follows from the log: its hints are lines of the log that resolve to its clause, in which variables
-- ascend
pub record Follows (log : Lines) (line : Derived) : Type 0 where
  pub ascending : IsAscending line.clause
  pub named : All (IsLine log) line.hints
  pub resolve : ResolveTo (chain_of log line.hints) line.clause

-- each line follows from the axioms and the lines before it
abbrev pub AreSound : List (List Literal) → List Derived → List Derived → Type 0
AreSound axioms before [] = Unit {0}
AreSound axioms before (line ∷ lines) =
    Follows (log_of axioms before) line × AreSound axioms (before ++ line ∷ []) lines

-- what holds of every log: no axiom has a variable twice, and each derived line follows from the lines before
-- it
pub record IsSound (log : Lines) : Type 0 where
  pub distinct : HaveDistinctVariables log.axioms
  pub sound : AreSound log.axioms [] log.derived

-- the new log has one derived line more: what the chain resolves to, with ascending variables
pub record AddsDerived (old : Lines) (chain : List LineId) (new : Lines) : Type 0 where
  pub clause : List Literal
  pub ascending : IsAscending clause
  pub resolve : ResolveTo (chain_of old chain) clause
  pub added : new ≡ log_of old.axioms (old.derived ++ record { clause = clause; hints = chain } ∷ [])
