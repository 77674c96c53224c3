use Rattle.std.proofs.Common.{◌<◌, length, refl, subst, arith}
use Rattle.std.proofs.lemmas.Option.{get_or_from_slice_get}
use Rattle.qc_base.specs.declared.ids.Qubit.{Qubit}
use Rattle.circuit_core.specs.Op.{qubits_of}
use Rattle.circuit_core.proofs.Noted.{noted_qubit}
use Rattle.circuit_core.proofs.last_ops.note_on_qubits.Goals as goal

pub loop-index-preserved : goal.loop-index-preserved
loop-index-preserved c =
    let qubits = qubits_of c.args.op.now in
    let index = c.loop-index.index in
    let within : c.loop-index.index < length (qubits_of c.args.op.now) = omega arith in
    let below : c.qubit.result.0 < length c.args.table.now = subst (λ (q : Qubit). q.0 < length c.args.table.now) (get_or_from_slice_get qubits index c.qubit.result c.qubit.result c.qubit.ensures) (c.requires index c.qubit.result within) in
    noted_qubit c.args.table.now c.loop-index.table _ c.args.number qubits index c.qubit.result within c.qubit.ensures (omega arith) refl c.loop-index.invariant
