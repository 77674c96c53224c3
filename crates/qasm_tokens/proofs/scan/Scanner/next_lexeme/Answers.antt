use Rattle.std.proofs.Common.{◌∙◌, arith}
use Rattle.qasm_tokens.proofs.Steps.{at_end}
use Rattle.qasm_tokens.proofs.scan.Scanner.next_lexeme.Goals as goal

pub returns-clause-next : goal.returns-clause-next
returns-clause-next c = c.loop-self.invariant.reads ∙ at_end c.loop-self.self.at c.loop-self.self.depth c.loop-self.self.bytes.now (omega arith)
