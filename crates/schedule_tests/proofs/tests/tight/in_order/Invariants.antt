use Rattle.std.proofs.Common.{ℕ, ◌<◌}
use Rattle.circuit_core.specs.Order.{Forced}
use Rattle.compact.specs.Orders.{IsPerformedAt}
use Rattle.schedule_tests.proofs.tests.tight.in_order.Given as goal

-- what has to come before the operation of one of so many first actions is before it
abbrev pub invariant-loop-place : goal.invariant-loop-place
invariant-loop-place l = (i j p q : ℕ) → Forced l.circuit i j → IsPerformedAt l.actions i p → IsPerformedAt l.actions j q → q < l.place → p < q
