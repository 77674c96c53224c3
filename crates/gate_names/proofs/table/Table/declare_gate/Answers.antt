use Rattle.std.proofs.Common.{◌≡◌, ◌+◌, ◌∷◌, [], length, ap, ◌∙◌, arith, length-append}
use Rattle.gate_names.specs.declared.names.Meaning.TheVariants.{Gate}
use Rattle.gate_names.proofs.Tables.{known_still}
use Rattle.gate_names.proofs.table.Table.declare_gate.Goals as goal

pub invariant_of-self-2 : goal.invariant_of-self-2
invariant_of-self-2 c =
    let pushed : length c.push.new.self ≡ length c.self.inside.gates + 1 = ap length c.in_ok-push.ensures.ok ∙ length-append c.self.inside.gates (c.args.gate ∷ []) in
    let before : length c.items-number.result.now ≡ length c.self.inside.gates = ap length c.items-number.ensures.items in
    record {
      known = known_still c.self.inside.names c.declare.new.self c.args.name.now (Gate (length c.items-number.result.now)) (length c.self.inside.gates) (length c.push.new.self)
          c.self.invariant.known (omega arith)
          (λ number e. let same : length c.items-number.result.now ≡ number = cc in omega arith)
          c.declare.result c.declare.ensures.ok c.declare.ensures.err;
      start = let start = c.self.invariant.start in omega arith;
    }
