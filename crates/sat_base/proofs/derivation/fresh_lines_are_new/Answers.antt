use Rattle.sat_base.proofs.Deriving.{fresh_is_new}
use Rattle.sat_base.proofs.derivation.fresh_lines_are_new.Goals as goal

pub returns : goal.returns
returns c = λ clauses line clause fresh is_in within. fresh_is_new clauses line clause fresh is_in within
