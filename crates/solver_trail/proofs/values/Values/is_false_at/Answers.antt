use Rattle.std.proofs.Common.{◌≢◌, Some, Bool, List, refl, ap, subst}
use Rattle.sat_base.specs.Literal.{negated}
use Rattle.sat_base.proofs.Clauses.{EachVariable-has}
use Rattle.solver_trail.specs.Trail.{Trail, literals_of}
use Rattle.solver_trail.specs.Status.{HasTruth}
use Rattle.solver_trail.specs.Storing.{ArePlaced}
use Rattle.solver_trail.specs.declared.values.Assigned.{Assigned}
use Rattle.solver_trail.proofs.Trails.{Has-false, placed_consistent}
use Rattle.solver_trail.proofs.values.Values.is_false_at.Goals as goal

pub returns-in-Some-true : goal.returns-in-Some-true
returns-in-Some-true c =
    let now = c.args.self.now.entries in
    let placed = subst (λ (xs : List Assigned). ArePlaced xs c.self.inside.places.items) (ap (λ (t : Trail). t.entries) c.self.view_is) c.self.invariant.placed in
    let truth : HasTruth (literals_of now) c.args.literal (Some c.in-Some-true.field-0) = c.in-Some-true.ensures in
    let has = subst (λ (b : Bool). HasTruth (literals_of now) c.args.literal (Some b)) c.in-Some-true.field-0-test truth in (
      λ off. absurd cc,
      λ false_at. absurd (placed_consistent now c.self.inside.places.items placed c.args.literal has (Has-false now c.args.level c.args.literal false_at)),
    )

pub returns-in-None : goal.returns-in-None
returns-in-None c =
    let now = c.args.self.now.entries in (
      λ off. absurd cc,
      λ false_at. absurd (EachVariable-has (λ var. var ≢ c.args.literal.var) (literals_of now) (negated c.args.literal) c.in-None.ensures (Has-false now c.args.level c.args.literal false_at) refl),
    )
