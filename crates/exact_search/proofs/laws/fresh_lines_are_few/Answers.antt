use Rattle.exact_search.proofs.FirstClause.{fresh_lines_few}
use Rattle.exact_search.proofs.laws.fresh_lines_are_few.Goals as goal

pub returns : goal.returns
returns c = fresh_lines_few
