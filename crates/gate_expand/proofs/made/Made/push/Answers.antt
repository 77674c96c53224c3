use Rattle.std.proofs.Common.{◌+◌, ℕ, rules}
use Rattle.circuit_core.specs.Circuit.{nodes_in}
use Rattle.circuit_core.specs.Op.{angles_of}
use Rattle.gate_expand.specs.Nodes.{nodes_fit}
use Rattle.gate_expand.specs.Making.{with_op}
use Rattle.gate_names.proofs.Refusals.{left_on}
use Rattle.gate_expand.proofs.Sums.{op_refused}
use Rattle.gate_expand.proofs.made.Made.push.Goals as goal

pub returns-in_err-nodes : goal.returns-in_err-nodes
returns-in_err-nodes c =
    left_on c.from_residual.result c.in_err-nodes.field-0.0 (λ (n : ℕ). n) c.args.self.now (nodes_fit (c.self.inside.nodes + nodes_in (angles_of c.args.op)))
    (with_op c.args.op c.args.self.now) c.from_residual.ensures.1 c.in_err-nodes.ensures (λ e. op_refused c.args.op c.args.self.now c.self.inside.nodes c.in_err-nodes.field-0.0 (search rules) (search rules) e)
