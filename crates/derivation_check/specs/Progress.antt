-- What a contract sees of a checker, and the bytes that it was fed.
use Rattle.std.specs.Prelude.{◌≡◌, ℕ, ◌≤◌, List, ◌++◌, length, Option, Some, None}
use Rattle.qc_base.specs.Spelling.{IsFree}
use Rattle.sat_base.specs.Literal.{Literal}
use Rattle.sat_base.specs.Derivation.{Line, clauses_of}
use Rattle.derivation_check.specs.declared.cert_fault.CertFault.{CertFault}
use Rattle.derivation_check.specs.Faults.{Task, Reads, HasFault, HasMalformedLine, HasBadLine, place_after}
use Rattle.derivation_check.specs.declared.cert_fault.CertFault.TheVariants.{Line as ALine, Bad, NoMemory}

-- how far a checker is: the clauses so far, of which the first so many are the axioms; how many bytes it was
-- fed; which line of the whole text comes next, and its bytes so far; and the fault that was answered
pub record Progress : Type 0 where
  pub clauses : List (List Literal)
  pub axioms : ℕ
  pub vars : ℕ
  pub limit : ℕ
  pub fed : ℕ
  pub place : ℕ
  pub pending : List ℕ
  pub stopped : Option CertFault

-- the task over these parts
abbrev pub task_of : List (List Literal) → ℕ → ℕ → Task
task_of formula vars limit = record { formula = formula; vars = vars; limit = limit }

-- it accepted the lines of these bytes, and keeps the bytes after them
pub record Accepts (task : Task) (bytes : List ℕ) (checker : Progress) : Type 0 where
  pub lines : List Line
  pub reads : Reads task bytes lines checker.pending
  pub free : IsFree 10 checker.pending
  pub clauses : checker.clauses ≡ task.formula ++ clauses_of lines
  pub axioms : checker.axioms ≡ length task.formula
  pub place : checker.place ≡ place_after lines
  pub vars : checker.vars ≡ task.vars

-- and these are all bytes that it took, within the limit
pub record HasTaken (task : Task) (bytes : List ℕ) (checker : Progress) : Type 0 where
  pub accepts : Accepts task bytes checker
  pub fed : checker.fed ≡ length bytes
  pub limit : checker.limit ≡ task.limit
  pub within : length bytes ≤ task.limit

-- where no fault was answered it continues, else the bytes have that fault
abbrev pub IsAfter : Task → List ℕ → Progress → Option CertFault → Type 0
IsAfter task bytes checker None = HasTaken task bytes checker
IsAfter task bytes checker (Some fault) = HasFault task bytes fault

-- the checker has the task, and was fed these bytes
abbrev pub WasFed : Task → List ℕ → Progress → Type 0
WasFed task bytes checker = IsAfter task bytes checker checker.stopped

-- ---- for private functions

-- the fault of a line of these bytes
abbrev pub HasLineFault : Task → List ℕ → CertFault → Type 0
HasLineFault task bytes (ALine place) = HasMalformedLine task bytes place
HasLineFault task bytes (Bad place) = HasBadLine task bytes place
HasLineFault task bytes NoMemory = Unit {0}
HasLineFault task bytes fault = ⊥

-- all but the clauses, the place and the bytes of the line stays
pub record KeepsRest (old new : Progress) : Type 0 where
  pub vars : new.vars ≡ old.vars
  pub limit : new.limit ≡ old.limit
  pub fed : new.fed ≡ old.fed
  pub stopped : new.stopped ≡ old.stopped
