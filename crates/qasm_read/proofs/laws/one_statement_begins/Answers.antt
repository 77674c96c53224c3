use Rattle.qasm_read.proofs.Unique.{one_statement}
use Rattle.qasm_read.proofs.laws.one_statement_begins.Goals as goal

pub returns : goal.returns
returns c = one_statement
