use Rattle.std.proofs.Common.{◌<◌, length, arith}
use Rattle.circuit_core.specs.Op.{qubits_of}
use Rattle.circuit_core.proofs.Latest.{qubits_more}
use Rattle.circuit_core.proofs.last_ops.push_on_qubits.Goals as goal

pub loop-index-preserved : goal.loop-index-preserved
loop-index-preserved c =
    let within : c.loop-index.index < length (qubits_of c.args.op.now) = omega arith in
    qubits_more c.args.table.now (qubits_of c.args.op.now) c.loop-index.index c.qubit.result c.args.near.now.items c.loop-index.near.items c.push_some.new.near.items within c.qubit.ensures c.loop-index.invariant c.in_ok-push_some.ensures
