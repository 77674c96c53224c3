-- The grammar of a circuit file (OpenQASM 2.0, arXiv:1707.03429, appendix A, in the profile of docs/circuit.md).
use Rattle.std.specs.Prelude.{◌≡◌, ℕ, ◌+◌, List, [], ◌∷◌, ◌++◌, Some, None, Bool, cond, nat_le}
use Rattle.circuit_core.specs.declared.words.BinOp.{BinOp}
use Rattle.circuit_core.specs.declared.words.BinOp.TheVariants.{Add, Sub, Mul, Div, Pow}
use Rattle.circuit_core.specs.declared.words.FunName.{FunName}
use Rattle.circuit_core.specs.declared.words.FunName.TheVariants as function
use Rattle.qasm_read.specs.declared.arg.Arg.{Arg}
use Rattle.qasm_read.specs.declared.body_item.BodyItem.{BodyItem}
use Rattle.qasm_read.specs.declared.body_item.BodyItem.TheVariants as item
use Rattle.qasm_read.specs.declared.exp.Exp.{Exp, fold-Exp, roll-Exp}
use Rattle.qasm_read.specs.declared.exp.Exp.TheOpen.{Exp-F}
use Rattle.qasm_read.specs.declared.qop.Qop.{Qop}
use Rattle.qasm_read.specs.declared.qop.Qop.TheVariants as operation
use Rattle.qasm_read.specs.declared.statement.Statement.{Statement}
use Rattle.qasm_read.specs.declared.statement.Statement.TheVariants as statement
use Rattle.qasm_tokens.specs.declared.token.Token.{Token}
use Rattle.qasm_tokens.specs.declared.token.Token.TheVariants as token
use Rattle.qasm_tokens.specs.declared.token.Keyword.TheVariants as word
use Rattle.qasm_tokens.specs.declared.token.Sign.TheVariants.{Semicolon, Comma, LeftParenthesis, RightParenthesis, LeftBracket, RightBracket, LeftBrace, RightBrace, Plus, Minus, Star, Slash, Caret, Arrow, Equals}
use Rattle.qasm_read.specs.Forms.{Form, ◌▸◌, word, sign, name, integer, text, each, commas, parameters, tokens_of, place_of}

-- ---- expressions

-- how tightly an expression holds together, from the loosest on
pub data Level : Type 0 where
  expression : Level
  term : Level
  factor : Level
  power : Level
  atom : Level

abbrev pub sign_of : BinOp → Token
sign_of Add = token.Sign Plus
sign_of Sub = token.Sign Minus
sign_of Mul = token.Sign Star
sign_of Div = token.Sign Slash
sign_of Pow = token.Sign Caret

abbrev pub word_of : FunName → Token
word_of function.Sin = token.Keyword word.Sin
word_of function.Cos = token.Keyword word.Cos
word_of function.Tan = token.Keyword word.Tan
word_of function.Exp = token.Keyword word.Exp
word_of function.Ln = token.Keyword word.Ln
word_of function.Sqrt = token.Keyword word.Sqrt

-- the level of an operator, and what may be to its left and to its right
abbrev pub whole_of : BinOp → Level
whole_of Add = expression
whole_of Sub = expression
whole_of Mul = term
whole_of Div = term
whole_of Pow = power

abbrev pub left_of : BinOp → Level
left_of Add = expression
left_of Sub = expression
left_of Mul = term
left_of Div = term
left_of Pow = atom

abbrev pub right_of : BinOp → Level
right_of Add = term
right_of Sub = term
right_of Mul = factor
right_of Div = factor
right_of Pow = factor

abbrev pub enclosed : List Token → List Token
enclosed tokens = token.Sign LeftParenthesis ∷ tokens ++ token.Sign RightParenthesis ∷ []

-- these tokens spell this expression at this level
pub data Spells : Level → Exp → List Token → Type 0 where
  real : (r : List ℕ) → Spells atom (roll-Exp (Exp-F.Real r)) (token.Real r ∷ [])
  whole : (n : ℕ) → Spells atom (roll-Exp (Exp-F.Int n)) (token.Integer n ∷ [])
  pi : Spells atom (roll-Exp Exp-F.Pi) (token.Keyword word.Pi ∷ [])
  named : (n : List ℕ) → Spells atom (roll-Exp (Exp-F.Id n)) (token.Identifier n ∷ [])
  applied : (f : FunName) (e : Exp) (tokens : List Token) → Spells expression e tokens
      → Spells atom (roll-Exp (Exp-F.Fun f e)) (word_of f ∷ enclosed tokens)
  in_parentheses : (e : Exp) (tokens : List Token) → Spells expression e tokens → Spells atom e (enclosed tokens)
  negated : (e : Exp) (tokens : List Token) → Spells factor e tokens
      → Spells factor (roll-Exp (Exp-F.Neg e)) (token.Sign Minus ∷ tokens)
  joined : (op : BinOp) (a b : Exp) (left right : List Token) → Spells (left_of op) a left
      → Spells (right_of op) b right
      → Spells (whole_of op) (roll-Exp (Exp-F.Bin op a b)) (left ++ sign_of op ∷ right)
  an_atom : (e : Exp) (tokens : List Token) → Spells atom e tokens → Spells power e tokens
  a_power : (e : Exp) (tokens : List Token) → Spells power e tokens → Spells factor e tokens
  a_factor : (e : Exp) (tokens : List Token) → Spells factor e tokens → Spells term e tokens
  a_term : (e : Exp) (tokens : List Token) → Spells term e tokens → Spells expression e tokens

abbrev pub nodes_step : Exp-F ℕ → ℕ
nodes_step (Exp-F.Real r) = 1
nodes_step (Exp-F.Int n) = 1
nodes_step Exp-F.Pi = 1
nodes_step (Exp-F.Neg a) = a + 1
nodes_step (Exp-F.Bin op a b) = a + b + 1
nodes_step (Exp-F.Fun f a) = a + 1
nodes_step (Exp-F.Id n) = 1

-- how many nodes an expression has
abbrev pub nodes_of : Exp → ℕ
nodes_of = fold-Exp ℕ nodes_step

-- an expression of more than 1,000 nodes is large
abbrev pub is_small : Exp → Bool
is_small e = nat_le (nodes_of e) 1000

abbrev pub an_expression : Exp → Form
an_expression e large placed =
    Spells expression e (tokens_of placed) × (large ≡ cond (is_small e) None (place_of placed))

-- ---- statements, over the form of an expression

abbrev pub index : ℕ → Form
index n = sign LeftBracket ▸ integer n ▸ sign RightBracket

abbrev pub argument : Arg → Form
argument a = elim a.index [ None ↦ name a.name | Some i ↦ name a.name ▸ index i ]

-- parameters in parentheses, and qubits
abbrev pub formals : List (List ℕ) → List (List ℕ) → Form
formals params qubits = parameters name params ▸ commas name qubits

abbrev pub some_expressions : (Exp → Form) → List Exp → Form
some_expressions E params = sign LeftParenthesis ▸ commas E params ▸ sign RightParenthesis

abbrev pub body_item : (Exp → Form) → BodyItem → Form
body_item E (item.U params arg) = word word.U ▸ some_expressions E params ▸ name arg ▸ sign Semicolon
body_item E (item.Cx control target) = word word.Cx ▸ name control ▸ sign Comma ▸ name target ▸ sign Semicolon
body_item E (item.Call gate params args) = name gate ▸ parameters E params ▸ commas name args ▸ sign Semicolon
body_item E (item.Barrier args) = word word.Barrier ▸ commas name args ▸ sign Semicolon

abbrev pub qop : (Exp → Form) → Qop → Form
qop E (operation.U params arg) = word word.U ▸ some_expressions E params ▸ argument arg ▸ sign Semicolon
qop E (operation.Cx control target) = word word.Cx ▸ argument control ▸ sign Comma ▸ argument target ▸ sign Semicolon
qop E (operation.Call gate params args) = name gate ▸ parameters E params ▸ commas argument args ▸ sign Semicolon
qop E (operation.Measure source target) =
    word word.Measure ▸ argument source ▸ sign Arrow ▸ argument target ▸ sign Semicolon
qop E (operation.Reset arg) = word word.Reset ▸ argument arg ▸ sign Semicolon

abbrev pub a_statement : (Exp → Form) → Statement → Form
a_statement E (statement.Include t) = word word.Include ▸ text t ▸ sign Semicolon
a_statement E (statement.Register quantum n size) =
    word (cond quantum word.Qreg word.Creg) ▸ name n ▸ index size ▸ sign Semicolon
a_statement E (statement.Gate n params qubits body) =
    word word.Gate ▸ name n ▸ formals params qubits ▸ sign LeftBrace ▸ each (body_item E) body
    ▸ sign RightBrace
a_statement E (statement.Opaque n params qubits) = word word.Opaque ▸ name n ▸ formals params qubits ▸ sign Semicolon
a_statement E (statement.Apply op) = qop E op
a_statement E (statement.Barrier args) = word word.Barrier ▸ commas argument args ▸ sign Semicolon
a_statement E (statement.If creg value op) =
    word word.If ▸ sign LeftParenthesis ▸ name creg ▸ sign Equals ▸ integer value ▸ sign RightParenthesis
    ▸ qop E op
