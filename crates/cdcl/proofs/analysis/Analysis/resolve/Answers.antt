use Rattle.std.proofs.Common.{List, ap, subst}
use Rattle.sat_base.specs.Literal.{Literal}
use Rattle.sat_base.specs.LitSet.{Loses, AddsOthers}
use Rattle.sat_base.specs.Resolution.{IsJoined}
use Rattle.sat_base.proofs.Sets.{joined_by}
use Rattle.derivation_log.specs.Log.{clause_of}
use Rattle.cdcl.specs.Learning.{Chained}
use Rattle.cdcl.proofs.analysis.Analysis.resolve.Goals as goal

pub returns-clause-clause : goal.returns-clause-clause
returns-clause-clause c =
    let old = c.self.inside.clause in
    let view = ap (λ (chained : Chained). chained.clause) c.self.view_is in
    let loses = subst (λ (l : Literal). Loses old l c.remove.new.self) c.negated.ensures c.remove.ensures in
    let others = subst (λ (hint : List Literal). AddsOthers c.remove.new.self hint c.args.literal c.add_others.new.self) c.clause.ensures c.in_ok-add_others.ensures in
    subst (λ (xs : List Literal). IsJoined xs (clause_of c.args.log.now c.args.reason) c.args.literal c.add_others.new.self) view (joined_by old c.remove.new.self (clause_of c.args.log.now c.args.reason) c.add_others.new.self c.args.literal loses others)
