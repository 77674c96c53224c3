use Rattle.std.proofs.Common.{◌≡◌, ℕ, ◌+◌, ◌<◌, ◌≤◌, true}
use Rattle.std.specs.Prelude.{slice_index_or}
use Rattle.gate_order.specs.Keeping.{op, is_set}
use Rattle.gate_order.proofs.progress.settled_front.Given as goal

-- those so far are settled
abbrev pub invariant-loop-before : goal.invariant-loop-before
invariant-loop-before l = record {
  front : l.front ≡ l.fn.seen + l.before-index;
  passed : (k : ℕ) → l.fn.seen ≤ k → k < l.front → is_set l.flags (slice_index_or l.near k (op 0)).0 ≡ true;
}
