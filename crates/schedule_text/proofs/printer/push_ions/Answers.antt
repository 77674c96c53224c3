use Rattle.circuit_core.specs.Op.{qubits_of}
use Rattle.schedule_text.proofs.IonWords.{next_ion}
use Rattle.schedule_text.proofs.printer.push_ions.Goals as goal

pub loop-index-preserved : goal.loop-index-preserved
loop-index-preserved c =
    let before = c.loop-index in
    let written = next_ion c.args.placement.now (qubits_of c.args.op.now) before.index c.qubit.result before.out.items _ c.qubit.ensures before.invariant in
    rw (c.in_ok-push_number.ensures.ok, c.in_ok-extend_from_slice.ensures.items, c.ion_of.ensures.ion) written
