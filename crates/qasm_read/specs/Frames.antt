-- The frames around an expression that is read.
use Rattle.std.specs.Prelude.{ℕ, List, [], ◌∷◌, Option, Some, None, cond, nat_le}
use Rattle.circuit_core.specs.declared.words.BinOp.{BinOp}
use Rattle.circuit_core.specs.declared.words.BinOp.TheVariants.{Add, Sub, Mul, Div, Pow}
use Rattle.qasm_read.specs.declared.frame.Frame.{Frame}
use Rattle.qasm_read.specs.declared.frame.Frame.TheVariants.{Parenthesis, Function, Minus, Left}
use Rattle.qasm_read.specs.declared.tree.Tree.{Tree}
use Rattle.qasm_read.specs.Trees.{negated, applied, joined}

-- how strongly an operator pulls at what is before it; the end of an expression pulls at 1
abbrev pub strength_of : BinOp → ℕ
strength_of Add = 2
strength_of Sub = 2
strength_of Mul = 3
strength_of Div = 3
strength_of Pow = 5

-- how strongly a frame holds what comes after it
abbrev pub left_hold : BinOp → ℕ
left_hold Add = 2
left_hold Sub = 2
left_hold Mul = 3
left_hold Div = 3
left_hold Pow = 4

abbrev pub hold_of : Frame → ℕ
hold_of Parenthesis = 0
hold_of (Function f) = 0
hold_of Minus = 4
hold_of (Left op left) = left_hold op

-- the expression in the frame
abbrev pub put_in : Frame → Option Tree → Option Tree
put_in Parenthesis tree = tree
put_in (Function f) tree = applied f tree
put_in Minus tree = negated tree
put_in (Left op left) tree = joined op left tree

-- the innermost frame, where it holds as strongly as that, and the others
abbrev pub taken : ℕ → List Frame → Option Frame × List Frame
taken strength [] = (None, [])
taken strength (f ∷ frames) = cond (nat_le strength (hold_of f)) (Some f, frames) (None, f ∷ frames)

-- the frames that hold as strongly as that are put around the expression
unfoldable pub reduced : ℕ → List Frame → Option Tree → List Frame × Option Tree
reduced strength [] tree = ([], tree)
reduced strength (f ∷ frames) tree =
    cond (nat_le strength (hold_of f)) (reduced strength frames (put_in f tree)) (f ∷ frames, tree)
