use Rattle.std.proofs.Common.{◌≡◌, ◌≤◌, length}
use Rattle.qasm_read.specs.Expressions.{run, wanted}
use Rattle.qasm_read.proofs.expressions.operand.Given as goal

-- the tokens go on in these frames as they did at first
abbrev pub invariant-loop-frame : goal.invariant-loop-frame
invariant-loop-frame g l =
    record {
      same : run l.tokens.placed (wanted l.frames) ≡ run l.fn.tokens.placed (wanted l.fn.frames);
      large : l.tokens.large ≡ l.fn.tokens.large;
      fewer : length l.tokens.placed ≤ length l.fn.tokens.placed;
    }

abbrev pub decreases-loop-frame : goal.decreases-loop-frame
decreases-loop-frame g l = length l.tokens.placed
