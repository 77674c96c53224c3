-- What is answered of a text over a formula.
use Rattle.std.specs.Prelude.{◌≡◌, ℕ, ◌+◌, ◌≤◌, ◌⊎◌, List, [], ◌∷◌, ◌++◌, length, Result, Ok, Err}
use Rattle.sat_base.specs.Literal.{Literal}
use Rattle.lrat_out.specs.declared.lrat_fault.LratFault.{LratFault}
use Rattle.lrat_out.specs.declared.lrat_fault.LratFault.TheVariants.{Line, Hint, NoEmpty, NoMemory}
use Rattle.lrat_out.specs.Lines.{ProofLine, proof_line_text, lrat_text, Hand, hand_of, after_all, HasForm}
use Rattle.lrat_out.specs.Right.{IsRight, AreAccepted}

-- the formula, and how many variables there are
pub record Task : Type 0 where
  pub formula : List (List Literal)
  pub vars : ℕ

-- the task over these parts
abbrev pub task_of : List (List Literal) → ℕ → Task
task_of formula vars = record { formula = formula; vars = vars }

-- what is in hand after these lines
abbrev pub hand_after : Task → List ProofLine → Hand
hand_after task lines = after_all (hand_of task.formula) lines

-- the bytes are the text of accepted lines, and then the rest
pub record Reads (task : Task) (bytes : List ℕ) (lines : List ProofLine) (rest : List ℕ) : Type 0 where
  pub text : bytes ≡ lrat_text lines ++ rest
  pub accepted : AreAccepted task.vars (hand_of task.formula) lines

-- the bytes begin with no line of the form
abbrev pub HasNoLine : ℕ → Hand → List ℕ → Type 0
HasNoLine vars hand bytes =
    (line : ProofLine) (more : List ℕ) → HasForm vars hand line → bytes ≡ proof_line_text line ++ more → ⊥

-- after accepted lines comes something that doesn't begin with a line of the form
pub record HasMalformedLine (task : Task) (bytes : List ℕ) (place : ℕ) : Type 0 where
  pub lines : List ProofLine
  pub rest : List ℕ
  pub reads : Reads task bytes lines rest
  pub some : 1 ≤ length rest
  pub none : HasNoLine task.vars (hand_after task lines) rest
  pub is_place : place ≡ length lines + 1

-- after accepted lines comes a line of the form that is not right
pub record HasWrongLine (task : Task) (bytes : List ℕ) (place : ℕ) : Type 0 where
  pub lines : List ProofLine
  pub line : ProofLine
  pub rest : List ℕ
  pub reads : Reads task bytes lines (proof_line_text line ++ rest)
  pub form : HasForm task.vars (hand_after task lines) line
  pub wrong : IsRight (hand_after task lines) line → ⊥
  pub is_place : place ≡ length lines + 1

-- a line has the empty clause
abbrev pub HaveEmpty : List ProofLine → Type 0
HaveEmpty [] = ⊥
HaveEmpty (line ∷ lines) = (line.clause ≡ []) ⊎ HaveEmpty lines

-- the bytes are so many accepted lines and nothing else, and one of them has the empty clause
pub record IsProof (task : Task) (bytes : List ℕ) (count : ℕ) : Type 0 where
  pub lines : List ProofLine
  pub reads : Reads task bytes lines []
  pub empty : HaveEmpty lines
  pub counted : count ≡ length lines

-- the bytes are accepted lines and nothing else, and none of them has the empty clause
pub record LeavesOpen (task : Task) (bytes : List ℕ) : Type 0 where
  pub lines : List ProofLine
  pub reads : Reads task bytes lines []
  pub no_empty : HaveEmpty lines → ⊥

-- What is answered of the bytes: how many lines there are where they are a proof, else the first fault. Out of
-- memory says nothing of them.
abbrev pub Answers : Task → List ℕ → Result ℕ LratFault → Type 0
Answers task bytes (Ok count) = IsProof task bytes count
Answers task bytes (Err (Line place)) = HasMalformedLine task bytes place
Answers task bytes (Err (Hint place)) = HasWrongLine task bytes place
Answers task bytes (Err NoEmpty) = LeavesOpen task bytes
Answers task bytes (Err NoMemory) = Unit {0}
