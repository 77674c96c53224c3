use Rattle.step_vars.proofs.HaveNumbers.{at_has_number, ord_has_number, use_has_number, leave_has_number, swap_has_number, act_has_number, done_has_number, goal_has_number}
use Rattle.step_vars.proofs.laws.items_have_numbers.Goals as goal

pub returns : goal.returns
returns c = record {
  at = at_has_number;
  ord = ord_has_number;
  uses = use_has_number;
  leave = leave_has_number;
  swap = swap_has_number;
  act = act_has_number;
  done = done_has_number;
  goal = goal_has_number;
}
