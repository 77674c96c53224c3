use Rattle.std.proofs.Common.{◌≡◌, ◌≤◌, length, drop}
use Rattle.std.specs.Prelude.{slice_index_or}
use Rattle.gate_order.specs.Keeping.{op, IsKept, IsVisiting, done_in}
use Rattle.gate_order.proofs.progress.Progress.visit_after.Given as goal

-- the operations from there on are still to be visited
abbrev pub invariant-loop-next : goal.invariant-loop-next
invariant-loop-next l = record {
  kept : IsKept l.circuit l.nearest l.self;
  visiting : IsVisiting l.nearest l.self l.head (slice_index_or l.fn.self.settled.items l.head (op 0)).0 (drop l.next-index l.next-items);
  done : done_in l.circuit l.self.settled.items ≡ done_in l.circuit l.initial.self.settled.items;
  len : length l.initial.self.settled.items ≤ length l.self.settled.items;
  same : (slice_index_or l.self.settled.items l.head (op 0)).0 ≡ (slice_index_or l.fn.self.settled.items l.head (op 0)).0;
}
