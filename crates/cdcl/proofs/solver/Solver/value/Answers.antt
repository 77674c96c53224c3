use Rattle.std.proofs.Common.{Bool, false, Option, ap, ◌∙◌}
use Rattle.std.specs.Option.{unwrap_or}
use Rattle.solver_trail.specs.Trail.{values_of}
use Rattle.cdcl.specs.Solver.{SolverState}
use Rattle.cdcl.proofs.Models.{value_or_false}
use Rattle.cdcl.proofs.solver.Solver.value.Goals as goal

pub returns : goal.returns
returns g c =
    c.unwrap_or.ensures ∙ ap (λ (v : Option Bool). unwrap_or v false) c.get.ensures
    ∙ value_or_false c.self.inside.values.entries c.args.var
    ∙ ap (λ (s : SolverState). values_of s.trail.entries c.args.var) c.self.view_is
