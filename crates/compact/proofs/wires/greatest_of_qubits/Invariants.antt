use Rattle.std.proofs.Common.{take}
use Rattle.std.specs.Prelude.{slice_index}
use Rattle.circuit_core.specs.Op.{qubits_of}
use Rattle.compact.specs.Levels.{IsGreatest}
use Rattle.compact.proofs.Raising.{Has}
use Rattle.compact.proofs.wires.greatest_of_qubits.Given as goal

abbrev pub invariant-loop-index : goal.invariant-loop-index
invariant-loop-index l = IsGreatest (Has (take l.index (qubits_of l.op))) (slice_index l.levels) l.greatest
