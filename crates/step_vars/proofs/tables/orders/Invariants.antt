use Rattle.std.proofs.Common.{◌≡◌, map}
use Rattle.std.specs.Prelude.{filter}
use Rattle.std.specs.List.{range_with_len, flat_map}
use Rattle.circuit_core.specs.Order.{is_performed}
use Rattle.step_vars.specs.Lists.{cell, forced_before}
use Rattle.step_vars.proofs.tables.orders.Given as goal

abbrev pub invariant-loop-op : goal.invariant-loop-op
invariant-loop-op l = l.orders.items ≡ flat_map (λ g. map (cell g) (forced_before l.circuit g)) (filter (is_performed l.circuit) (range_with_len 0 l.op))
