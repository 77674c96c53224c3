use Rattle.std.proofs.Common.{◌≡◌, ℕ, ◌+◌, max, List, take, arith}
use Rattle.std.specs.Prelude.{slice_index}
use Rattle.qc_base.specs.declared.ids.Qubit.{Qubit}
use Rattle.circuit_core.specs.Op.{qubits_of}
use Rattle.compact.proofs.Raising.{Has, has_old, has_new, has_cases, greatest_more}
use Rattle.compact.proofs.wires.greatest_of_qubits.Goals as goal

pub loop-index-preserved : goal.loop-index-preserved
loop-index-preserved c =
    let qubits : List Qubit = qubits_of c.args.op.now in
    let index : ℕ = c.loop-index.index in
    let next : c.max-greatest.result ≡ max c.of.result c.loop-index.greatest = omega arith in
    greatest_more (Has (take index qubits)) (Has (take (index + 1) qubits)) (slice_index c.args.levels.now) c.loop-index.greatest c.of.result c.max-greatest.result c.qubit.result.0 c.of.ensures next
    (has_old qubits index c.qubit.result c.qubit.ensures) (has_new qubits index c.qubit.result c.qubit.ensures) (has_cases qubits index c.qubit.result c.qubit.ensures) c.loop-index.invariant
