-- The size of an angle, how it is written (negations and pairs in parentheses), and its real literals.
use Rattle.std.specs.Prelude.{ℕ, ◌+◌, List, [], ◌∷◌, ◌++◌, codes}
use Rattle.std.specs.Fmt.{decimal}
use Rattle.circuit_core.specs.declared.angle.Angle.{Angle, fold-Angle}
use Rattle.circuit_core.specs.declared.angle.Angle.TheOpen.{Angle-F}
use Rattle.circuit_core.specs.declared.words.BinOp.{BinOp}
use Rattle.circuit_core.specs.declared.words.BinOp.TheVariants.{Add, Sub, Mul, Div, Pow}
use Rattle.circuit_core.specs.declared.words.FunName.{FunName}
use Rattle.circuit_core.specs.declared.words.FunName.TheVariants.{Sin, Cos, Tan, Exp, Ln, Sqrt}

abbrev pub nodes_step : Angle-F ℕ → ℕ
nodes_step (Angle-F.Real name) = 1
nodes_step (Angle-F.Int n) = 1
nodes_step Angle-F.Pi = 1
nodes_step (Angle-F.Neg a) = a + 1
nodes_step (Angle-F.Bin op a b) = a + b + 1
nodes_step (Angle-F.Fun f a) = a + 1

-- how many nodes an angle has
abbrev pub nodes_of : Angle → ℕ
nodes_of = fold-Angle ℕ nodes_step

abbrev pub sign_of : BinOp → List ℕ
sign_of Add = codes "+"
sign_of Sub = codes "-"
sign_of Mul = codes "*"
sign_of Div = codes "/"
sign_of Pow = codes "^"

abbrev pub word_of : FunName → List ℕ
word_of Sin = codes "sin"
word_of Cos = codes "cos"
word_of Tan = codes "tan"
word_of Exp = codes "exp"
word_of Ln = codes "ln"
word_of Sqrt = codes "sqrt"

abbrev pub text_step : Angle-F (List ℕ) → List ℕ
text_step (Angle-F.Real name) = name
text_step (Angle-F.Int n) = decimal n
text_step Angle-F.Pi = codes "pi"
text_step (Angle-F.Neg a) = codes "(-" ++ a ++ codes ")"
text_step (Angle-F.Bin op a b) = codes "(" ++ a ++ sign_of op ++ b ++ codes ")"
text_step (Angle-F.Fun f a) = word_of f ++ codes "(" ++ a ++ codes ")"

-- how an angle is written
abbrev pub text_of : Angle → List ℕ
text_of = fold-Angle (List ℕ) text_step

abbrev pub reals_step : Angle-F (List (List ℕ)) → List (List ℕ)
reals_step (Angle-F.Real name) = name ∷ []
reals_step (Angle-F.Int n) = []
reals_step Angle-F.Pi = []
reals_step (Angle-F.Neg a) = a
reals_step (Angle-F.Bin op a b) = a ++ b
reals_step (Angle-F.Fun f a) = a

-- its real literals, in order
abbrev pub reals_of : Angle → List (List ℕ)
reals_of = fold-Angle (List (List ℕ)) reals_step
