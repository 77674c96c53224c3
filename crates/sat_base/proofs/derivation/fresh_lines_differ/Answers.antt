use Rattle.std.specs.Prelude.{[]}
use Rattle.sat_base.proofs.Deriving.{all_differ}
use Rattle.sat_base.proofs.derivation.fresh_lines_differ.Goals as goal

pub returns : goal.returns
returns c = λ parts last lines fresh. all_differ parts last [] lines fresh
