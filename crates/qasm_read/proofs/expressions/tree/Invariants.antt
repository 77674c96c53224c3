use Rattle.std.proofs.Common.{◌≡◌, [], length}
use Rattle.qasm_read.specs.Expressions.{run, wanted, there}
use Rattle.qasm_read.proofs.expressions.tree.Given as goal

-- the tokens go on after this expression as they did at first
abbrev pub invariant-loop-op : goal.invariant-loop-op
invariant-loop-op g l =
    record {
      same : run l.tokens.placed (there l.frames l.tree) ≡ run l.fn.tokens.placed (wanted []);
      large : l.tokens.large ≡ l.fn.tokens.large;
    }

abbrev pub decreases-loop-op : goal.decreases-loop-op
decreases-loop-op g l = length l.tokens.placed
