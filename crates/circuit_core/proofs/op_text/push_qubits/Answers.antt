use Rattle.circuit_core.specs.Label.{label}
use Rattle.circuit_core.specs.Op.{qubits_of}
use Rattle.circuit_core.proofs.Commas.{next_text}
use Rattle.circuit_core.proofs.op_text.push_qubits.Goals as goal

pub loop-index-preserved : goal.loop-index-preserved
loop-index-preserved c =
    let before = c.loop-index in
    let written = next_text (label c.args.circuit.now) (qubits_of c.args.op.now) before.index c.qubit.result before.out.items _ c.qubit.ensures before.invariant in
    rw (c.in_ok-push_label.ensures, c.qregs.ensures.qregs, c.in_ok-push_comma.ensures) written
