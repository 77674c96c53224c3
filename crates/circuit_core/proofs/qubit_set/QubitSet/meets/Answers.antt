use Rattle.std.proofs.Common.{◌<◌, sym, subst, Bool, List, length, arith}
use Rattle.circuit_core.specs.Op.{qubits_of}
use Rattle.circuit_core.specs.QubitSet.{AreFlags}
use Rattle.circuit_core.proofs.Flags.{below_at, none_more, some_there}
use Rattle.circuit_core.proofs.qubit_set.QubitSet.meets.Goals as goal

pub returns-then-self-qubit : goal.returns-then-self-qubit
returns-then-self-qubit c =
    let all = qubits_of c.args.op.now in
    let within : c.loop-index.index < length (qubits_of c.args.op.now) = omega arith in
    let below = below_at all c.loop-index.index c.qubit.result c.requires within c.qubit.ensures in
    λ qubits are. some_there c.self.inside.flags qubits all c.loop-index.index c.qubit.result within c.qubit.ensures below (subst (λ (f : List Bool). AreFlags f qubits) (sym c.self.view_is) are) c.if-self-qubit.true

pub loop-index-preserved : goal.loop-index-preserved
loop-index-preserved c =
    let all = qubits_of c.args.op.now in
    let within : c.loop-index.index < length (qubits_of c.args.op.now) = omega arith in
    let below = below_at all c.loop-index.index c.qubit.result c.requires within c.qubit.ensures in
    λ qubits are. none_more c.self.inside.flags qubits all c.loop-index.index c.qubit.result within c.qubit.ensures below are c.if-self-qubit.false (c.loop-index.invariant qubits are)
