use Rattle.gate_expand.proofs.Origins.{operations_come}
use Rattle.gate_expand.proofs.laws.operations_come_from_statements.Goals as goal

pub returns : goal.returns
returns c = operations_come
