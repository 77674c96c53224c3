use Rattle.std.proofs.Common.{◌∙◌, length, not, false, rules}
use Rattle.std.specs.Prelude.{slice_index_or}
use Rattle.circuit_core.proofs.Labels.{find_on}
use Rattle.step_rules.proofs.placement.unmarked.Goals as goal

pub loop-number-preserved : goal.loop-number-preserved
loop-number-preserved c =
    c.loop-number.invariant
    ∙ find_on (λ number. not (slice_index_or c.args.flags.now number false)) c.loop-number.number (length c.args.flags.now) c.loop-number-test.true (search rules)
