use Rattle.std.proofs.Common.{length}
use Rattle.qasm_read.specs.Forms.{each}
use Rattle.qasm_read.proofs.Readers.{Took}
use Rattle.qasm_read.proofs.ProgramLaws.{cut_placed}
use Rattle.qasm_read.proofs.reader.statements.Given as goal

-- the statements so far are those of the tokens so far
abbrev pub invariant-loop-at : goal.invariant-loop-at
invariant-loop-at g l = Took (each cut_placed l.statements.items) l.fn.tokens l.tokens

abbrev pub decreases-loop-at : goal.decreases-loop-at
decreases-loop-at g l = length l.tokens.placed
