-- What holds of a statement that a text spells, beside its grammar: its names are identifiers, its reals are
-- reals, and its expressions are small.
use Rattle.std.specs.Prelude.{ℕ, ◌<◌, ◌≤◌, List, [], ◌∷◌, ◌++◌, length, All, IsTrue}
use Rattle.circuit_core.specs.Identifier.{is_identifier}
use Rattle.circuit_core.specs.Reals.{IsShortReal}
use Rattle.qasm_read.specs.declared.arg.Arg.{Arg}
use Rattle.qasm_read.specs.declared.body_item.BodyItem.{BodyItem}
use Rattle.qasm_read.specs.declared.body_item.BodyItem.TheVariants as item
use Rattle.qasm_read.specs.declared.exp.Exp.{Exp, fold-Exp}
use Rattle.qasm_read.specs.declared.exp.Exp.TheOpen.{Exp-F}
use Rattle.qasm_read.specs.declared.qop.Qop.{Qop}
use Rattle.qasm_read.specs.declared.qop.Qop.TheVariants as operation
use Rattle.qasm_read.specs.declared.statement.Placed.{Placed}
use Rattle.qasm_read.specs.declared.statement.Statement.{Statement}
use Rattle.qasm_read.specs.declared.statement.Statement.TheVariants as statement
use Rattle.qasm_read.specs.Grammar.{nodes_of}

-- a name that a register, a gate or a formal may have
abbrev pub IsName : List ℕ → Type 0
IsName name = IsTrue (is_identifier name)

-- the names in an expression, from those in each of its parts
abbrev pub names_step : Exp-F (List (List ℕ)) → List (List ℕ)
names_step (Exp-F.Real text) = []
names_step (Exp-F.Int value) = []
names_step Exp-F.Pi = []
names_step (Exp-F.Neg inner) = inner
names_step (Exp-F.Bin op left right) = left ++ right
names_step (Exp-F.Fun function inner) = inner
names_step (Exp-F.Id name) = name ∷ []

-- the names in an expression
abbrev pub names_of : Exp → List (List ℕ)
names_of = fold-Exp (List (List ℕ)) names_step

-- the reals in an expression, from those in each of its parts
abbrev pub reals_step : Exp-F (List (List ℕ)) → List (List ℕ)
reals_step (Exp-F.Real text) = text ∷ []
reals_step (Exp-F.Int value) = []
reals_step Exp-F.Pi = []
reals_step (Exp-F.Neg inner) = inner
reals_step (Exp-F.Bin op left right) = left ++ right
reals_step (Exp-F.Fun function inner) = inner
reals_step (Exp-F.Id name) = []

-- the reals in an expression
abbrev pub reals_of : Exp → List (List ℕ)
reals_of = fold-Exp (List (List ℕ)) reals_step

-- an expression of at most 1,000 nodes, whose names are identifiers and whose reals are short
pub record IsExpression (expression : Exp) : Type 0 where
  pub names : All IsName (names_of expression)
  pub reals : All IsShortReal (reals_of expression)
  pub small : nodes_of expression ≤ 1000

-- an argument whose register's name is an identifier
abbrev pub IsArgument : Arg → Type 0
IsArgument argument = IsName argument.name

-- there is one at least, and each is so
abbrev pub AtLeastOne : {X : Type 0} → (X → Type 0) → List X → Type 0
AtLeastOne IsSo items = (0 < length items) × All IsSo items

-- an item of a gate's body, of names and expressions as above; U has one parameter at least, a call may have none
abbrev pub IsBodyItem : BodyItem → Type 0
IsBodyItem (item.U params arg) = AtLeastOne IsExpression params × IsName arg
IsBodyItem (item.Cx control target) = IsName control × IsName target
IsBodyItem (item.Call gate params args) = IsName gate × All IsExpression params × AtLeastOne IsName args
IsBodyItem (item.Barrier args) = AtLeastOne IsName args

-- an operation, of names, arguments and expressions as above; U has one parameter at least, a call may have none
abbrev pub IsOperation : Qop → Type 0
IsOperation (operation.U params arg) = AtLeastOne IsExpression params × IsArgument arg
IsOperation (operation.Cx control target) = IsArgument control × IsArgument target
IsOperation (operation.Call gate params args) = IsName gate × All IsExpression params × AtLeastOne IsArgument args
IsOperation (operation.Measure source target) = IsArgument source × IsArgument target
IsOperation (operation.Reset arg) = IsArgument arg

-- a statement, of names, arguments, body items and operations as above; nothing is said of an included text
abbrev pub IsWellFormed : Statement → Type 0
IsWellFormed (statement.Include text) = Unit {0}
IsWellFormed (statement.Register quantum name size) = IsName name
IsWellFormed (statement.Gate name params qubits body) =
    IsName name × All IsName params × AtLeastOne IsName qubits × All IsBodyItem body
IsWellFormed (statement.Opaque name params qubits) = IsName name × All IsName params × AtLeastOne IsName qubits
IsWellFormed (statement.Apply op) = IsOperation op
IsWellFormed (statement.Barrier args) = AtLeastOne IsArgument args
IsWellFormed (statement.If creg value op) = IsName creg × IsOperation op

-- each statement of a program is
abbrev pub AreWellFormed : List Placed → Type 0
AreWellFormed program = All (λ placed. IsWellFormed placed.statement) program
