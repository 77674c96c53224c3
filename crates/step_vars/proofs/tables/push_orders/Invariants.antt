use Rattle.std.proofs.Common.{◌≡◌, ◌++◌, ◌&&◌, map}
use Rattle.std.specs.Prelude.{filter}
use Rattle.std.specs.List.{range_with_len}
use Rattle.circuit_core.specs.Deciding.{is_forced}
use Rattle.circuit_core.specs.Order.{is_performed}
use Rattle.step_vars.specs.Lists.{cell}
use Rattle.step_vars.proofs.tables.push_orders.Given as goal

abbrev pub invariant-loop-before : goal.invariant-loop-before
invariant-loop-before l = l.orders.items ≡ l.fn.orders.items ++ map (cell l.op) (filter (λ h. is_performed l.circuit h && is_forced l.circuit h l.op) (range_with_len 0 l.before))
