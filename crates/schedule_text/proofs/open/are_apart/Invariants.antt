use Rattle.std.proofs.Common.{◌≡◌, length, take}
use Rattle.circuit_core.specs.Circuit.{qubit_count}
use Rattle.step_rules.specs.Placement.{reading_order}
use Rattle.schedule_text.specs.ZoneLists.{AreMarked, AreIn}
use Rattle.schedule_text.proofs.open.are_apart.Given as goal

-- the lists so far have room, and their qubits are marked
abbrev pub invariant-loop-zone : goal.invariant-loop-zone
invariant-loop-zone l = record {
  len : length l.flags.items ≡ qubit_count l.circuit;
  marked : AreMarked l.flags.items (reading_order (take l.zone l.lists));
  room : AreIn l.zones (take l.zone l.lists);
}
