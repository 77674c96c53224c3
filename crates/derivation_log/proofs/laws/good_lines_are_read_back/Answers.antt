use Rattle.derivation_log.proofs.OneLog.{one_log}
use Rattle.derivation_log.proofs.laws.good_lines_are_read_back.Goals as goal

pub returns : goal.returns
returns c = one_log
