use Rattle.step_vars.proofs.Inverse.{number_to_item, item_to_number, number_once}
use Rattle.step_vars.proofs.laws.numbers_differ.Goals as goal

pub returns : goal.returns
returns c = record { item = number_to_item; number = item_to_number; once = number_once }
