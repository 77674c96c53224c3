use Rattle.std.proofs.Common.{◌≡◌, length, take, drop, []}
use Rattle.circuit_core.specs.Circuit.{qubit_count}
use Rattle.step_rules.specs.Placement.{reading_order, zones_fault}
use Rattle.step_rules.specs.Flags.{AreFlags}
use Rattle.step_rules.proofs.placement.Placement.new.Given as goal

-- no zone so far has a fault, and its qubits are marked
abbrev pub invariant-loop-zone : goal.invariant-loop-zone
invariant-loop-zone l = record {
  len : length l.flags.items ≡ qubit_count l.circuit;
  marked : AreFlags l.flags.items (reading_order (take l.zone l.list-items));
  so_far : zones_fault l.trap 0 [] l.list-items ≡ zones_fault l.trap l.zone (reading_order (take l.zone l.list-items)) (drop l.zone l.list-items);
}
