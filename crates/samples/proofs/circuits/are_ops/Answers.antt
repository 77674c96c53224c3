use Rattle.std.proofs.Common.{◌≡◌, ◌≤◌, sym, subst, All, get_or}
use Rattle.std.proofs.lemmas.List.{take_all}
use Rattle.std.proofs.lemmas.List.Elements.{All-more}
use Rattle.circuit_core.specs.declared.op.Op.{Op}
use Rattle.circuit_core.specs.Circuit.{nodes_in}
use Rattle.circuit_core.specs.Op.{IsOp, angles_of}
use Rattle.samples.proofs.circuits.are_ops.Goals as goal

pub loop-op-preserved : goal.loop-op-preserved
loop-op-preserved c =
    let op : Op = c.op-item.result in
    let at : get_or c.args.ops.now c.loop-op.op-index op ≡ op = cc in
    let P : Op → Type 0 = IsOp c.args.qubits c.args.bits c.args.cregs in
    let Q : Op → Type 0 = λ op. nodes_in (angles_of op) ≤ 3 in
    record {
      ops = All-more P c.args.ops.now c.loop-op.op-index op c.loop-op-test.true c.loop-op.invariant.ops
          (subst P (sym at) (c.is_op.ensures.op c.if-not-is_op.false));
      nodes = All-more Q c.args.ops.now c.loop-op.op-index op c.loop-op-test.true c.loop-op.invariant.nodes
          (subst Q (sym at) (c.is_op.ensures.nodes c.if-not-is_op.false));
    }

pub returns-clause-ops : goal.returns-clause-ops
returns-clause-ops c = λ holds.
    subst (All (IsOp c.args.qubits c.args.bits c.args.cregs))
    (take_all c.loop-op.op-index c.args.ops.now c.loop-op-test.false) c.loop-op.invariant.ops

pub returns-clause-nodes : goal.returns-clause-nodes
returns-clause-nodes c = λ holds.
    subst (All (λ (op : Op). nodes_in (angles_of op) ≤ 3))
    (take_all c.loop-op.op-index c.args.ops.now c.loop-op-test.false) c.loop-op.invariant.nodes
