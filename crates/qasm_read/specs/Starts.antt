-- What a token is in an expression.
use Rattle.std.specs.Prelude.{Option, Some, None}
use Rattle.circuit_core.specs.declared.words.BinOp.{BinOp}
use Rattle.circuit_core.specs.declared.words.BinOp.TheVariants.{Add, Sub, Mul, Div, Pow}
use Rattle.circuit_core.specs.declared.words.FunName.TheVariants as function
use Rattle.qasm_read.specs.declared.exp.Exp.{roll-Exp}
use Rattle.qasm_read.specs.declared.exp.Exp.TheOpen.{Exp-F}
use Rattle.qasm_read.specs.declared.frame.Frame.TheVariants as frame
use Rattle.qasm_read.specs.declared.start.Start.{Start}
use Rattle.qasm_read.specs.declared.start.Start.TheVariants as start
use Rattle.qasm_tokens.specs.declared.token.Token.{Token}
use Rattle.qasm_tokens.specs.declared.token.Token.TheVariants as token
use Rattle.qasm_tokens.specs.declared.token.Keyword.{Keyword}
use Rattle.qasm_tokens.specs.declared.token.Keyword.TheVariants as word
use Rattle.qasm_tokens.specs.declared.token.Sign.TheVariants.{LeftParenthesis, Plus, Minus, Star, Slash, Caret}

abbrev pub word_start : Keyword → Start
word_start word.Pi = start.Whole (roll-Exp Exp-F.Pi)
word_start word.Sin = start.Function function.Sin
word_start word.Cos = start.Function function.Cos
word_start word.Tan = start.Function function.Tan
word_start word.Exp = start.Function function.Exp
word_start word.Ln = start.Function function.Ln
word_start word.Sqrt = start.Function function.Sqrt
word_start other = start.Nothing

-- what a token begins where an expression is wanted
abbrev pub start_of : Token → Start
start_of (token.Keyword w) = word_start w
start_of (token.Identifier n) = start.Whole (roll-Exp (Exp-F.Id n))
start_of (token.Integer n) = start.Whole (roll-Exp (Exp-F.Int n))
start_of (token.Real r) = start.Whole (roll-Exp (Exp-F.Real r))
start_of (token.Sign Minus) = start.Frame frame.Minus
start_of (token.Sign LeftParenthesis) = start.Frame frame.Parenthesis
start_of other = start.Nothing

-- which operator a token is after an expression
abbrev pub operator_of : Token → Option BinOp
operator_of (token.Sign Plus) = Some Add
operator_of (token.Sign Minus) = Some Sub
operator_of (token.Sign Star) = Some Mul
operator_of (token.Sign Slash) = Some Div
operator_of (token.Sign Caret) = Some Pow
operator_of other = None
