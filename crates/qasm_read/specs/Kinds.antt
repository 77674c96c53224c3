-- Frames in two lists: what each is, and what is to the left of each operator.
use Rattle.std.specs.Prelude.{List, [], ◌∷◌, Option, None}
use Rattle.qasm_read.specs.declared.frame.Frame.{Frame}
use Rattle.qasm_read.specs.declared.frame.Frame.TheVariants as frame
use Rattle.qasm_read.specs.declared.kind.Kind.{Kind}
use Rattle.qasm_read.specs.declared.kind.Kind.TheVariants.{Parenthesis, Function, Minus, Left}
use Rattle.qasm_read.specs.declared.tree.Tree.{Tree}

-- the frame of that kind, where this is to the left of its operator
abbrev pub frame_of : Kind → Option Tree → Frame
frame_of Parenthesis left = frame.Parenthesis
frame_of (Function f) left = frame.Function f
frame_of Minus left = frame.Minus
frame_of (Left op) left = frame.Left op left

-- the frames of these kinds, from the innermost on; each operator takes what is to its left
abbrev pub frames_of : List Kind → List (Option Tree) → List Frame
frames_of [] lefts = []
frames_of (Parenthesis ∷ kinds) lefts = frame.Parenthesis ∷ frames_of kinds lefts
frames_of (Function f ∷ kinds) lefts = frame.Function f ∷ frames_of kinds lefts
frames_of (Minus ∷ kinds) lefts = frame.Minus ∷ frames_of kinds lefts
frames_of (Left op ∷ kinds) [] = frame.Left op None ∷ frames_of kinds []
frames_of (Left op ∷ kinds) (left ∷ lefts) = frame.Left op left ∷ frames_of kinds lefts
