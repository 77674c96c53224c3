use Rattle.step_vars.proofs.Inverse.{helper_is_no_item, helper_is_none}
use Rattle.step_vars.proofs.laws.helpers_are_no_items.Goals as goal

pub returns : goal.returns
returns c = record { number = helper_is_no_item; item = helper_is_none }
