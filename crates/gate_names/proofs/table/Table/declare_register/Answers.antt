use Rattle.std.proofs.Common.{length, arith}
use Rattle.gate_names.proofs.Tables.{known_still, register_only}
use Rattle.gate_names.proofs.table.Table.declare_register.Goals as goal

pub invariant_of-self : goal.invariant_of-self
invariant_of-self c = record {
  known = known_still c.self.inside.names c.declare.new.self c.args.name.now c.args.meaning (length c.self.inside.gates) (length c.self.inside.gates)
      c.self.invariant.known (omega arith) (λ number e. register_only c.args.meaning number c.requires.register e)
      c.declare.result c.declare.ensures.ok c.declare.ensures.err;
  start = c.self.invariant.start;
}
