use Rattle.std.proofs.Common.{◌≡◌, All, length, drop}
use Rattle.gate_names.specs.GateOrder.{IsCallBelow}
use Rattle.gate_names.specs.Causes.{each, after}
use Rattle.gate_names.specs.Declarations.{item_of}
use Rattle.gate_names.proofs.declarations.items_of.Given as goal

abbrev pub invariant-loop-item : goal.invariant-loop-item
invariant-loop-item l =
    record {
      same : after l.items.items (each (item_of l.table l.params l.qubits) (drop l.item-index l.body)) ≡ each (item_of l.table l.params l.qubits) l.body;
      below : All (IsCallBelow (length l.table.gates)) l.items.items;
    }
