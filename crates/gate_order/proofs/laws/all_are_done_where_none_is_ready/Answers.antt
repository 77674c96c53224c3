use Rattle.gate_order.proofs.Last.{all_done}
use Rattle.gate_order.proofs.laws.all_are_done_where_none_is_ready.Goals as goal

pub returns : goal.returns
returns c = all_done
