use Rattle.std.proofs.Common.{take}
use Rattle.std.specs.Prelude.{slice_index}
use Rattle.circuit_core.specs.Op.{qubits_of}
use Rattle.compact.specs.Levels.{AreRaised}
use Rattle.compact.proofs.Raising.{Has}
use Rattle.compact.proofs.wires.raise_qubits.Given as goal

abbrev pub invariant-loop-index : goal.invariant-loop-index
invariant-loop-index l = AreRaised (Has (take l.index (qubits_of l.op))) (slice_index l.initial.levels) (slice_index l.levels) l.level
