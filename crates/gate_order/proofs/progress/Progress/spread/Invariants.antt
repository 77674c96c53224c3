use Rattle.std.proofs.Common.{◌≡◌, ◌-◌, length}
use Rattle.gate_order.specs.Keeping.{IsKept, IsBlocked, done_in}
use Rattle.gate_order.proofs.progress.Progress.spread.Given as goal

abbrev pub invariant-loop-head : goal.invariant-loop-head
invariant-loop-head l = record {
  kept : IsKept l.circuit l.nearest l.self;
  blocked : IsBlocked l.nearest l.self l.head;
  done : done_in l.circuit l.self.settled.items ≡ done_in l.circuit l.initial.self.settled.items;
}

abbrev pub decreases-loop-head : goal.decreases-loop-head
decreases-loop-head l = length l.nearest - l.head
