-- What a checker answers of the bytes after the head of a certificate.
use Rattle.std.specs.Prelude.{◌≡◌, ℕ, ◌+◌, ◌<◌, ◌≤◌, ◌^◌, ◌⊎◌, List, [], ◌∷◌, ◌++◌, length, take, Result, Ok, Err}
use Rattle.qc_base.specs.Spelling.{IsFree}
use Rattle.sat_base.specs.Literal.{Literal}
use Rattle.sat_base.specs.Derivation.{Line, clauses_of, IsGood, AnyRefutes}
use Rattle.sat_base.specs.Certificate.{line_text, lines_text, HasForm}
use Rattle.derivation_check.specs.declared.cert_fault.CertFault.{CertFault}
use Rattle.derivation_check.specs.declared.cert_fault.CertFault.TheVariants.{Line as ALine, Bad, NotRefuting, Endless, NoMemory}

-- the formula that lines are judged over, how many variables it has, and how many bytes there may be
pub record Task : Type 0 where
  pub formula : List (List Literal)
  pub vars : ℕ
  pub limit : ℕ

-- each line has the form and is good, numbered on after the clauses before it
abbrev pub AreAccepted : ℕ → List (List Literal) → List Line → Type 0
AreAccepted vars clauses [] = Unit {0}
AreAccepted vars clauses (line ∷ lines) =
    HasForm vars (length clauses + 1) line × IsGood vars clauses line
    × AreAccepted vars (clauses ++ line.clause ∷ []) lines

-- the bytes are the text of accepted lines, and then the rest
pub record Reads (task : Task) (bytes : List ℕ) (lines : List Line) (rest : List ℕ) : Type 0 where
  pub text : bytes ≡ lines_text (length task.formula + 1) lines ++ rest
  pub accepted : AreAccepted task.vars task.formula lines

-- the number of the line after these lines
abbrev pub number_after : Task → List Line → ℕ
number_after task lines = length task.formula + length lines + 1

-- which line of the whole text comes after these lines, counted from 1; the head has three
abbrev pub place_after : List Line → ℕ
place_after lines = length lines + 4

-- the bytes are the text of a line of that number and of the form
abbrev pub IsLineText : Task → ℕ → List ℕ → Type 0
IsLineText task number bytes =
    (line : Line) × HasForm task.vars number line × (bytes ≡ line_text number line)

-- after accepted lines comes a whole line that doesn't have the form
pub record HasMalformedLine (task : Task) (bytes : List ℕ) (place : ℕ) : Type 0 where
  pub lines : List Line
  pub word : List ℕ
  pub rest : List ℕ
  pub reads : Reads task bytes lines (word ++ 10 ∷ rest)
  pub free : IsFree 10 word
  pub other : IsLineText task (number_after task lines) (word ++ 10 ∷ []) → ⊥
  pub is_place : place ≡ place_after lines

-- after accepted lines comes a line of the form that is not good
pub record HasBadLine (task : Task) (bytes : List ℕ) (place : ℕ) : Type 0 where
  pub lines : List Line
  pub line : Line
  pub rest : List ℕ
  pub reads : Reads task bytes lines (line_text (number_after task lines) line ++ rest)
  pub form : HasForm task.vars (number_after task lines) line
  pub bad : IsGood task.vars (task.formula ++ clauses_of lines) line → ⊥
  pub is_place : place ≡ place_after lines

-- after accepted lines the bytes end in a line without its line feed
pub record HasCutLine (task : Task) (bytes : List ℕ) (place : ℕ) : Type 0 where
  pub lines : List Line
  pub rest : List ℕ
  pub reads : Reads task bytes lines rest
  pub within : length bytes ≤ task.limit
  pub free : IsFree 10 rest
  pub some : 1 ≤ length rest
  pub is_place : place ≡ place_after lines

-- there are more bytes than the limit, and all lines that end within it are accepted
pub record IsTooLong (task : Task) (bytes : List ℕ) : Type 0 where
  pub lines : List Line
  pub rest : List ℕ
  pub over : task.limit < length bytes
  pub reads : Reads task (take task.limit bytes) lines rest
  pub free : IsFree 10 rest

-- The fault that the bytes have, whatever comes after them: that of the first line that ends within the limit
-- and is not accepted, or else that there are too many bytes. Out of memory says nothing of them.
abbrev pub HasFault : Task → List ℕ → CertFault → Type 0
HasFault task bytes (ALine place) = HasMalformedLine task (take task.limit bytes) place
HasFault task bytes (Bad place) = HasBadLine task (take task.limit bytes) place
HasFault task bytes NotRefuting = ⊥
HasFault task bytes Endless = IsTooLong task bytes
HasFault task bytes NoMemory = Unit {0}

-- the bytes are accepted lines and nothing else, within the limit
pub record AreLines (task : Task) (bytes : List ℕ) (lines : List Line) : Type 0 where
  pub reads : Reads task bytes lines []
  pub within : length bytes ≤ task.limit

-- the bytes are so many accepted lines, and one of them refutes the goal
pub record IsRefutation (task : Task) (bytes : List ℕ) (goal : Literal) (count : ℕ) : Type 0 where
  pub lines : List Line
  pub accepted : AreLines task bytes lines
  pub counted : length lines ≡ count
  pub refutes : AnyRefutes goal (clauses_of lines)

-- the bytes are accepted lines, and none of them refutes the goal
pub record LeavesOpen (task : Task) (bytes : List ℕ) (goal : Literal) : Type 0 where
  pub lines : List Line
  pub accepted : AreLines task bytes lines
  pub open_goal : AnyRefutes goal (clauses_of lines) → ⊥

-- What is answered of all bytes: how many lines there are where they are a refutation, else the first fault.
abbrev pub Answers : Task → List ℕ → Literal → Result ℕ CertFault → Type 0
Answers task bytes goal (Ok count) = IsRefutation task bytes goal count
Answers task bytes goal (Err (ALine place)) = HasFault task bytes (ALine place) ⊎ HasCutLine task bytes place
Answers task bytes goal (Err NotRefuting) = LeavesOpen task bytes goal
Answers task bytes goal (Err fault) = HasFault task bytes fault

-- the numbers of variables and of lines fit 31 and 64 bits
pub record IsSmall (task : Task) : Type 0 where
  pub vars : task.vars < 2 ^ 31
  pub lines : length task.formula + task.limit < 2 ^ 64
