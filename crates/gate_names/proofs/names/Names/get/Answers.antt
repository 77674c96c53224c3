use Rattle.std.proofs.Common.{◌∙◌}
use Rattle.gate_names.proofs.Lookups.{looked_up}
use Rattle.gate_names.proofs.names.Names.get.Goals as goal

pub returns : goal.returns
returns c =
    c.copied.ensures ∙ c.get.ensures.value
    ∙ looked_up (λ k. k.items) c.self.inside.meanings.entries c.args.name.now c.bytes.result.now c.args.self.now (cc) (cc)
