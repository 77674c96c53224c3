use Rattle.std.proofs.Common.{◌≢◌, List, Option, sym, ap, ◌∙◌, subst}
use Rattle.sat_base.specs.Literal.{Literal}
use Rattle.sat_base.specs.Clauses.{Has}
use Rattle.cdcl.specs.declared.watching.Pair.{Pair}
use Rattle.cdcl.specs.Learning.{Chained}
use Rattle.cdcl.specs.Watching.{IsPairOf}
use Rattle.cdcl.proofs.Adding.{no_other}
use Rattle.cdcl.proofs.analysis.Analysis.pair.Goals as goal
use Rattle.solver_trail.specs.Trail.{IsFalseAt}

pub returns-in_err-second-clause-pair : goal.returns-in_err-second-clause-pair
returns-in_err-second-clause-pair c =
    let values = c.args.values.now in
    let none = subst (λ (clause : List Literal). (other : Literal) → Has clause other → other ≢ c.args.asserted → IsFalseAt values.entries c.args.target other → ⊥) (c.members.ensures.members ∙ ap (λ (x : Chained). x.clause) c.self.view_is) c.in_err-second.ensures.none in
    subst (λ (o : Option Pair). IsPairOf c.args.self.now.clause o) (sym c.from_residual.ensures) (no_other values.entries values.level c.args.self.now.clause c.args.asserted c.args.target c.requires.target none)
