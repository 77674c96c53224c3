use Rattle.std.proofs.Common.{ℕ, ◌+◌, ◌≤◌, List, length, take, subst, arith}
use Rattle.std.specs.Prelude.{slice_index}
use Rattle.qc_base.specs.declared.ids.Qubit.{Qubit}
use Rattle.circuit_core.specs.Op.{qubits_of}
use Rattle.compact.specs.Levels.{AreRaised}
use Rattle.compact.proofs.Raising.{Has, has_old, has_new, has_cases, has_all, raised_more}
use Rattle.compact.proofs.wires.raise_qubits.Goals as goal

pub loop-index-preserved : goal.loop-index-preserved
loop-index-preserved c =
    let qubits : List Qubit = qubits_of c.args.op.now in
    let index : ℕ = c.loop-index.index in
    raised_more (Has (take index qubits)) (Has (take (index + 1) qubits)) c.args.levels.now c.loop-index.levels c.raise.new.self c.args.level c.qubit.result.0 c.in_ok-raise.ensures
    (has_old qubits index c.qubit.result c.qubit.ensures) (has_new qubits index c.qubit.result c.qubit.ensures) (has_cases qubits index c.qubit.result c.qubit.ensures) c.loop-index.invariant

pub returns : goal.returns
returns c =
    let qubits : List Qubit = qubits_of c.args.op.now in
    let all : length (qubits_of c.args.op.now) ≤ c.loop-index.index = omega arith in
    subst (λ (l : List Qubit). AreRaised (Has l) (slice_index c.args.levels.now) (slice_index c.loop-index.levels) c.args.level) (has_all qubits c.loop-index.index all) c.loop-index.invariant
