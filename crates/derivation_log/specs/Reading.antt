-- What is read of the lines after the head of a certificate.
use Rattle.std.specs.Prelude.{◌≡◌, ℕ, ◌+◌, ◌-◌, ◌≤◌, nat_le, if◌then◌else◌, List, [], ◌∷◌, ◌++◌, length, map, Result, Ok, Err}
use Rattle.sat_base.specs.Literal.{Literal, positive_of}
use Rattle.sat_base.specs.Derivation.{Line, clauses_of as line_clauses, IsGood, AreGood, Refutes}
use Rattle.sat_base.specs.Certificate.{line_text, lines_text, HasForm, HaveForm}
use Rattle.derivation_log.specs.declared.line_id.LineId.{LineId}
use Rattle.derivation_log.specs.declared.lines_fault.LinesFault.{LinesFault}
use Rattle.derivation_log.specs.declared.lines_fault.LinesFault.TheVariants.{Line as ALine, Bad, NoMemory}
use Rattle.derivation_log.specs.Log.{Derived, Lines, log_of, axiom_id, derived_id, clause_of}

-- the formula, how many variables it has, and the number of the first line of the text
pub record Task : Type 0 where
  pub formula : List (List Literal)
  pub vars : ℕ
  pub first : ℕ

-- the task of these parts
abbrev pub task_of : List (List Literal) → ℕ → ℕ → Task
task_of formula vars first = record { formula = formula; vars = vars; first = first }

-- the line that a number names, where derived lines are numbered on after so many axioms
abbrev pub id_of : ℕ → ℕ → LineId
id_of axioms number = if nat_le number axioms then axiom_id number else derived_id (number - axioms)

-- a line as a derived line, its hints as lines
abbrev pub derived_of : ℕ → Line → Derived
derived_of axioms line = record { clause = line.clause; hints = map (id_of axioms) line.hints }

-- the log whose axioms are the formula, and whose derived lines are these
abbrev pub log_with : List (List Literal) → List Line → Lines
log_with formula lines = log_of formula (map (derived_of (length formula)) lines)

-- the number of the line after these lines
abbrev pub number_after : Task → List Line → ℕ
number_after task lines = length task.formula + 1 + length lines

-- the bytes are the text of lines that have the form and are good over the formula, and then the rest
pub record ReadsLines (task : Task) (bytes : List ℕ) (lines : List Line) (rest : List ℕ) : Type 0 where
  pub text : bytes ≡ lines_text (length task.formula + 1) lines ++ rest
  pub form : HaveForm task.vars (length task.formula + 1) lines
  pub good : AreGood task.vars task.formula lines

-- the bytes begin with no line of that number and of the form
abbrev pub HasNoLine : ℕ → ℕ → List ℕ → Type 0
HasNoLine vars number bytes = (line : Line) (more : List ℕ) → HasForm vars number line → bytes ≡ line_text number line ++ more → ⊥

-- after such lines comes something that doesn't begin with a line of the form
pub record HasMalformedLine (task : Task) (bytes : List ℕ) (place : ℕ) : Type 0 where
  pub lines : List Line
  pub rest : List ℕ
  pub reads : ReadsLines task bytes lines rest
  pub some : 1 ≤ length rest
  pub none : HasNoLine task.vars (number_after task lines) rest
  pub is_place : place ≡ task.first + length lines

-- after such lines comes a line of the form that is not good
pub record HasBadLine (task : Task) (bytes : List ℕ) (place : ℕ) : Type 0 where
  pub lines : List Line
  pub line : Line
  pub rest : List ℕ
  pub reads : ReadsLines task bytes lines (line_text (number_after task lines) line ++ rest)
  pub form : HasForm task.vars (number_after task lines) line
  pub bad : IsGood task.vars (task.formula ++ line_clauses lines) line → ⊥
  pub is_place : place ≡ task.first + length lines

-- the bytes are such lines and nothing else, and the log has them all
pub record HasLines (task : Task) (bytes : List ℕ) (log : Lines) : Type 0 where
  pub lines : List Line
  pub reads : ReadsLines task bytes lines []
  pub log_is : log ≡ log_with task.formula lines

-- What is answered of the bytes: their log, or the first fault. Out of memory says nothing of them.
abbrev pub Answers : Task → List ℕ → Result Lines LinesFault → Type 0
Answers task bytes (Ok log) = HasLines task bytes log
Answers task bytes (Err (ALine place)) = HasMalformedLine task bytes place
Answers task bytes (Err (Bad place)) = HasBadLine task bytes place
Answers task bytes (Err NoMemory) = Unit {0}

-- the derived line of that number refutes the goal, and no earlier one does
pub record IsFirstRefuting (log : Lines) (goal line : ℕ) : Type 0 where
  pub from_1 : 1 ≤ line
  pub within : line ≤ length log.derived
  pub refutes : Refutes (positive_of goal) (clause_of log (derived_id line))
  pub first : (earlier : ℕ) → 1 ≤ earlier → earlier + 1 ≤ line → Refutes (positive_of goal) (clause_of log (derived_id earlier)) → ⊥

-- ---- for private functions

-- a line of the form that is good, numbered on after the clauses of the log, is added to the log
pub record TakesLine (vars : ℕ) (old : Lines) (clauses : List (List Literal)) (bytes rest : List ℕ) (new : Lines) : Type 0 where
  pub line : Line
  pub form : HasForm vars (length clauses + 1) line
  pub good : IsGood vars clauses line
  pub text : bytes ≡ line_text (length clauses + 1) line ++ rest
  pub added : new ≡ log_of old.axioms (old.derived ++ derived_of (length old.axioms) line ∷ [])

-- the bytes begin with a line of the form that is not good
pub record HasBad (vars : ℕ) (clauses : List (List Literal)) (bytes : List ℕ) : Type 0 where
  pub line : Line
  pub rest : List ℕ
  pub form : HasForm vars (length clauses + 1) line
  pub bad : IsGood vars clauses line → ⊥
  pub text : bytes ≡ line_text (length clauses + 1) line ++ rest

-- the fault of the line at that place
abbrev pub HasFaultAt : ℕ → List (List Literal) → List ℕ → ℕ → LinesFault → Type 0
HasFaultAt vars clauses bytes place (ALine n) = (n ≡ place) × HasNoLine vars (length clauses + 1) bytes
HasFaultAt vars clauses bytes place (Bad n) = (n ≡ place) × HasBad vars clauses bytes
HasFaultAt vars clauses bytes place NoMemory = Unit {0}
