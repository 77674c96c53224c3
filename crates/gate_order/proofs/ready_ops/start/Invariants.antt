use Rattle.std.proofs.Common.{◌≡◌, []}
use Rattle.gate_order.specs.Keeping.{IsStateOf, HasRoom, done_in}
use Rattle.gate_order.proofs.ready_ops.start.Given as goal

abbrev pub invariant-loop-op : goal.invariant-loop-op
invariant-loop-op l = record {
  state : IsStateOf l.circuit l.nearest l.progress;
  room : HasRoom l.nearest l.progress;
  len : l.progress.flags.len ≡ l.op;
  done : done_in l.circuit l.progress.settled.items ≡ [];
}
