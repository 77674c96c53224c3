-- A program, or why the tokens aren't one.
use Rattle.std.specs.Prelude.{◌≡◌, ℕ, List, [], ◌∷◌, ◌++◌, Option, Some, None, Result, Ok, Err, codes}
use Rattle.qasm_read.specs.declared.fault.QasmFault.{QasmFault}
use Rattle.qasm_read.specs.declared.fault.QasmFault.TheVariants.{Header, Large, NoMemory, Statement as NoStatement}
use Rattle.qasm_read.specs.declared.statement.Placed.{Placed}
use Rattle.qasm_read.specs.declared.statement.Statement.{Statement}
use Rattle.qasm_tokens.specs.declared.token.PlacedToken.{PlacedToken}
use Rattle.qasm_tokens.specs.declared.token.Keyword.TheVariants.{OpenQasm}
use Rattle.qasm_tokens.specs.declared.token.Sign.TheVariants.{Semicolon}
use Rattle.qasm_read.specs.Forms.{Form, ◌▸◌, word, real, sign, each, place_of}
use Rattle.qasm_read.specs.Grammar.{a_statement, an_expression}

-- OPENQASM 2.0;
abbrev pub header : Form
header = word OpenQasm ▸ real (codes "2.0") ▸ sign Semicolon

-- a statement at the place of its first token
abbrev pub a_placed_statement : Placed → Form
a_placed_statement p large placed = a_statement an_expression p.statement large placed × (place_of placed ≡ Some p.at)

-- tokens that a form has, and what is left after them
pub record Begins (form : Form) (large : Option ℕ) (placed left : List PlacedToken) : Type 0 where
  pub front : List PlacedToken
  pub spelled : form large front
  pub parts : placed ≡ front ++ left

-- no statement begins here
abbrev pub NoStatementBegins : List PlacedToken → Type 0
NoStatementBegins placed =
    (s : Statement) (large : Option ℕ) (left : List PlacedToken)
    → Begins (a_statement an_expression s) large placed left → ⊥

-- these statements begin the tokens, and no statement begins what is left after them
pub record LongestRun (statements : List Placed) (large : Option ℕ) (placed left : List PlacedToken) : Type 0 where
  pub begins : Begins (each a_placed_statement statements) large placed left
  pub ended : NoStatementBegins left

-- What is said of a run: first that it has a large expression, then that no statement begins after it.
abbrev pub verdict : List Placed → Option ℕ → List PlacedToken → Result (List Placed) QasmFault
verdict statements (Some at) left = Err (Large at)
verdict statements None [] = Ok statements
verdict statements None (p ∷ left) = Err (NoStatement p.at)

-- the answer to the tokens after the header
abbrev pub AnswersAfter : List PlacedToken → Result (List Placed) QasmFault → Type 0
AnswersAfter placed answer =
    (statements : List Placed) × (large : Option ℕ) × (left : List PlacedToken)
    × LongestRun statements large placed left × (answer ≡ verdict statements large left)

-- the answer to the tokens
abbrev pub Answers : List PlacedToken → Result (List Placed) QasmFault → Type 0
Answers placed (Err Header) = (left : List PlacedToken) → Begins header None placed left → ⊥
Answers placed answer = (rest : List PlacedToken) × Begins header None placed rest × AnswersAfter rest answer

-- what a function answered is the answer, unless memory ran out
abbrev pub UnlessMemory : (Result (List Placed) QasmFault → Type 0) → Result (List Placed) QasmFault → Type 0
UnlessMemory P (Err NoMemory) = Unit {0}
UnlessMemory P answer = P answer
