use Rattle.std.proofs.Common.{◌≤◌, take, All}
use Rattle.circuit_core.specs.declared.op.Op.{Op}
use Rattle.circuit_core.specs.Circuit.{nodes_in}
use Rattle.circuit_core.specs.Op.{IsOp, angles_of}
use Rattle.samples.proofs.circuits.are_ops.Given as goal

-- what is said holds of the operations before
abbrev pub invariant-loop-op : goal.invariant-loop-op
invariant-loop-op l = record {
  ops : All (IsOp l.qubits l.bits l.cregs) (take l.op-index l.ops);
  nodes : All (λ (op : Op). nodes_in (angles_of op) ≤ 3) (take l.op-index l.ops);
}
