use Rattle.exact_search.proofs.Certify.{lines_certify}
use Rattle.exact_search.proofs.laws.found_lines_certify.Goals as goal

pub returns : goal.returns
returns c = lines_certify
