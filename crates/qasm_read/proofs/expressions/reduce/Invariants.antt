use Rattle.std.proofs.Common.{◌≡◌, length}
use Rattle.qasm_read.specs.Frames.{reduced}
use Rattle.qasm_read.proofs.expressions.reduce.Given as goal

abbrev pub invariant-loop-frame : goal.invariant-loop-frame
invariant-loop-frame l = reduced l.strength l.frames l.tree ≡ reduced l.strength l.fn.frames l.fn.tree

abbrev pub decreases-loop-frame : goal.decreases-loop-frame
decreases-loop-frame l = length l.frames
