use Rattle.step_vars.proofs.Inverse.{number_from_1, number_within, number_above, before_mono}
use Rattle.step_vars.proofs.laws.parts_are_in_order.Goals as goal

pub returns : goal.returns
returns c = record { from_1 = number_from_1; within = number_within; above = number_above; grows = before_mono }
