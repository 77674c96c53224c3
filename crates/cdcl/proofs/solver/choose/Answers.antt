use Rattle.std.proofs.Common.{Bool, Some, inr, subst}
use Rattle.solver_trail.specs.Trail.{literals_of}
use Rattle.solver_trail.specs.Status.{HasTruth}
use Rattle.solver_trail.proofs.Trails.{value_none}
use Rattle.cdcl.proofs.solver.choose.Goals as goal

pub returns-in-Some : goal.returns-in-Some
returns-in-Some g c =
    let set = literals_of c.args.values.now.entries in
    let truth : HasTruth set c.args.assumption (Some c.in-Some-true.field-0) = c.in-Some-true.ensures in
    let holds = subst (λ (b : Bool). HasTruth set c.args.assumption (Some b)) c.in-Some-true.field-0-test truth in
    let free = c.in-Some.ensures.some in
    (value_none c.args.values.now.entries c.in-Some.literal.var free.none, free.within, inr holds)
