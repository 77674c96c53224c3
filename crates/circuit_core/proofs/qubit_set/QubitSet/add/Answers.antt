use Rattle.std.proofs.Common.{◌<◌, ◌∙◌, refl, sym, subst, Bool, List, true, length, arith}
use Rattle.std.proofs.lemmas.List.{length-set}
use Rattle.circuit_core.specs.Op.{qubits_of}
use Rattle.circuit_core.specs.QubitSet.{AreFlags}
use Rattle.circuit_core.proofs.Flags.{below_at, flags_more, flags_all}
use Rattle.circuit_core.proofs.qubit_set.QubitSet.add.Goals as goal

pub loop-index-preserved : goal.loop-index-preserved
loop-index-preserved c =
    let all = qubits_of c.args.op.now in
    let within : c.loop-index.index < length (qubits_of c.args.op.now) = omega arith in
    record {
      len = length-set c.loop-index.self-inside.flags c.qubit.result.0 true ∙ c.loop-index.invariant.len;
      flags = λ qubits are. flags_more c.loop-index.self-inside.flags _ qubits all c.loop-index.index c.qubit.result within c.qubit.ensures (below_at all c.loop-index.index c.qubit.result c.requires within c.qubit.ensures) refl (c.loop-index.invariant.flags qubits are);
    }

pub returns : goal.returns
returns c =
    λ qubits are. flags_all c.loop-index.self-inside.flags qubits (qubits_of c.args.op.now) c.loop-index.index (omega arith) (c.loop-index.invariant.flags qubits (subst (λ (f : List Bool). AreFlags f qubits) (sym c.self.view_is) are))
