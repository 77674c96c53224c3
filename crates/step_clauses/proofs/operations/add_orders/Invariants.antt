use Rattle.std.proofs.Common.{◌≡◌, ◌++◌, drop, map}
use Rattle.step_clauses.specs.Operations.{in_order}
use Rattle.step_clauses.proofs.operations.add_orders.Given as goal

abbrev pub invariant-loop-order : goal.invariant-loop-order
invariant-loop-order l = l.out ++ map (in_order l.times.before l.times.time) (drop l.order-index l.orders) ≡ l.fn.out ++ map (in_order l.times.before l.times.time) l.orders
