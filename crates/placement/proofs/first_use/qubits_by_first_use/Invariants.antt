use Rattle.std.proofs.Common.{◌≡◌, ◌++◌, length, map, take}
use Rattle.std.specs.List.{flat_map, range_with_len}
use Rattle.circuit_core.specs.Circuit.{qubit_count}
use Rattle.placement.specs.Filling.{qubit_of}
use Rattle.placement.specs.FirstUse.{operands}
use Rattle.placement.specs.Orders.{AreUsed}
use Rattle.placement.proofs.first_use.qubits_by_first_use.Given as goal

abbrev pub invariant-loop-op : goal.invariant-loop-op
invariant-loop-op l = record {
  len : length l.order.used.items ≡ qubit_count l.circuit;
  so_far : AreUsed l.order.qubits.items l.order.used.items (flat_map operands (take l.op-index l.op-items));
}

abbrev pub invariant-loop-number : goal.invariant-loop-number
invariant-loop-number l = record {
  len : length l.order.used.items ≡ qubit_count l.circuit;
  so_far : AreUsed l.order.qubits.items l.order.used.items (flat_map operands l.circuit.ops ++ map qubit_of (range_with_len 0 l.number));
}
