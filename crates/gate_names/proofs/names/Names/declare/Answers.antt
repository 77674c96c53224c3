use Rattle.std.proofs.Common.{◌∙◌}
use Rattle.gate_names.proofs.Lookups.{declared_last}
use Rattle.gate_names.proofs.names.Names.declare.Goals as goal

pub returns-clause-ok : goal.returns-clause-ok
returns-clause-ok c =
    rw c.in_ok-insert.ensures.entries
    (declared_last (λ k. k.items) c.self.inside.meanings c.in_ok-key.key c.args.meaning c.args.name.now c.args.self.now (c.in_ok-key.ensures.items ∙ c.bytes.ensures) (cc) c.requires)
