use Rattle.step_rules.proofs.Kept.{action_kept, step_kept, steps_kept, start_ions, start_limits}
use Rattle.step_rules.proofs.laws.ions_and_limits_are_kept.Goals as goal

pub returns-clause-by_action : goal.returns-clause-by_action
returns-clause-by_action c = action_kept

pub returns-clause-by_step : goal.returns-clause-by_step
returns-clause-by_step c = step_kept

pub returns-clause-by_steps : goal.returns-clause-by_steps
returns-clause-by_steps c = steps_kept

pub returns-clause-start_ions : goal.returns-clause-start_ions
returns-clause-start_ions c = start_ions

pub returns-clause-start_limits : goal.returns-clause-start_limits
returns-clause-start_limits c = start_limits
