use Rattle.qasm_read.proofs.Unique as unique
use Rattle.qasm_read.proofs.laws.one_answer.Goals as goal

pub returns : goal.returns
returns c = unique.one_answer
