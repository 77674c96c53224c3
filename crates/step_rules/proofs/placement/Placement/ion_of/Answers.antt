use Rattle.std.proofs.Common.{ap, ◌∙◌}
use Rattle.std.specs.Prelude.{slice_get}
use Rattle.step_rules.specs.Placement.{reading_order}
use Rattle.step_rules.proofs.Reading.{place_found}
use Rattle.step_rules.proofs.placement.Placement.ion_of.Goals as goal

pub returns-clause-back : goal.returns-clause-back
returns-clause-back c there =
    ap (slice_get (reading_order c.args.self.now)) c.number_before.ensures ∙ place_found c.args.qubit (reading_order c.args.self.now) there
