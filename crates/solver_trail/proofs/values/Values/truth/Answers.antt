use Rattle.std.proofs.Common.{◌≡◌, Bool, Option, None, sym, ap, ◌∙◌, subst}
use Rattle.solver_trail.specs.Trail.{literals_of, value_in}
use Rattle.solver_trail.specs.Status.{HasTruth}
use Rattle.solver_trail.proofs.Trails.{value_none, truth_of}
use Rattle.solver_trail.proofs.values.Values.truth.Goals as goal

pub returns-in_err-value : goal.returns-in_err-value
returns-in_err-value c =
    let entries = c.args.self.now.entries in
    let none : value_in entries c.args.literal.var ≡ None = ap (value_in entries) (sym c.var.ensures.var) ∙ sym c.get.ensures ∙ c.in_err-value.was in
    subst (λ (truth : Option Bool). HasTruth (literals_of entries) c.args.literal truth) (sym c.from_residual.ensures) (value_none entries c.args.literal.var none)

pub returns : goal.returns
returns c =
    let entries = c.args.self.now.entries in
    truth_of entries c.args.literal c.in_ok-value.value c.positive.result c.positive.ensures
    (ap (value_in entries) (sym c.var.ensures.var) ∙ sym c.get.ensures ∙ c.in_ok-value.was)
