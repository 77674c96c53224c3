use Rattle.compact.specs.Orders.{AreCounted}
use Rattle.compact.proofs.orders.settle.Given as goal

abbrev pub invariant-loop-barrier : goal.invariant-loop-barrier
invariant-loop-barrier l = AreCounted l.circuit l.barriers l.barrier-index l.initial.wires l.wires
