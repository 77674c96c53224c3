use Rattle.std.proofs.Common.{◌≡◌, ◌++◌, drop}
use Rattle.std.specs.Prelude.{map}
use Rattle.circuit_core.specs.Label.{label}
use Rattle.circuit_core.specs.Op.{qubits_of}
use Rattle.circuit_core.specs.OpText.{qubits_text}
use Rattle.circuit_core.proofs.Commas.{commas_from}
use Rattle.circuit_core.proofs.op_text.push_qubits.Given as goal

abbrev pub invariant-loop-index : goal.invariant-loop-index
invariant-loop-index l =
    l.out.items ++ commas_from l.index (map (label l.circuit) (drop l.index (qubits_of l.op))) ≡ l.fn.out.items ++ qubits_text l.circuit (qubits_of l.op)
