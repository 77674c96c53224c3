use Rattle.std.proofs.Common.{◌≡◌, ◌++◌, drop, map}
use Rattle.step_clauses.specs.Start.{order_claim}
use Rattle.step_clauses.proofs.start.add_orders.Given as goal

abbrev pub invariant-loop-pair : goal.invariant-loop-pair
invariant-loop-pair l = l.out ++ map (order_claim l.config.lists) (drop l.pair-index l.pairs) ≡ l.fn.out ++ map (order_claim l.config.lists) l.pairs
