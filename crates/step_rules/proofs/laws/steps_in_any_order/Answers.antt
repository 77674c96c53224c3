use Rattle.step_rules.proofs.Effects.{step_in_any_order}
use Rattle.step_rules.proofs.laws.steps_in_any_order.Goals as goal

pub returns-clause-legal : goal.returns-clause-legal
returns-clause-legal c setting config step other legal moved = step_in_any_order setting.trap config step other legal.apart moved

pub returns-clause-apart : goal.returns-clause-apart
returns-clause-apart c = step_in_any_order
