use Rattle.compact.specs.Orders.{ArePassed}
use Rattle.compact.proofs.waiting.waiting_rows.Given as goal

abbrev pub invariant-loop-number : goal.invariant-loop-number
invariant-loop-number l = ArePassed l.circuit l.actions l.number l.wires l.rows.items
