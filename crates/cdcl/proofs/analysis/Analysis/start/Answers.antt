use Rattle.std.proofs.Common.{List, subst}
use Rattle.sat_base.specs.Literal.{Literal}
use Rattle.sat_base.specs.Clauses.{SameLiterals}
use Rattle.sat_base.specs.LitSet.{AddsAll}
use Rattle.cdcl.proofs.Analyzing.{same_from_all}
use Rattle.cdcl.proofs.analysis.Analysis.start.Goals as goal

pub returns-clause-clause : goal.returns-clause-clause
returns-clause-clause c =
    subst (SameLiterals c.add_all.new.self) c.clause.ensures
    (same_from_all c.clause.result.now c.add_all.new.self (subst (λ (old : List Literal). AddsAll old c.clause.result.now c.add_all.new.self) c.clear.ensures c.in_ok-add_all.ensures))
