use Rattle.std.proofs.Common.{◌≤◌, List, subst}
use Rattle.sat_base.specs.Literal.{Literal}
use Rattle.sat_base.specs.Clauses.{Has}
use Rattle.sat_base.proofs.Clauses.{EachVariable-has}
use Rattle.sat_base.proofs.Sets.{Has-get_or}
use Rattle.derivation_log.specs.Log.{clause_of}
use Rattle.cdcl.proofs.Lines.{named_line}
use Rattle.cdcl.proofs.analysis.Analysis.adds_nothing.Goals as goal

pub is_false_at-requires : goal.is_false_at-requires
is_false_at-requires c =
    let has = Has-get_or c.clause-other-items.result.now c.loop-other.other-index c.other-item.result c.loop-other-test.true c.other-item.is in
    let is_line = subst (λ (clause : List Literal). Has clause c.other-item.result) c.clause-other-items.ensures has in
    EachVariable-has (λ var. var ≤ c.args.values.now.vars) (clause_of c.args.log.now c.args.line) c.other-item.result (named_line (λ var. var ≤ c.args.values.now.vars) c.args.log.now c.args.line c.requires.named) is_line
