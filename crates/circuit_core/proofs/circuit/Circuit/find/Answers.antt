use Rattle.std.proofs.Common.{◌∙◌, rules}
use Rattle.std.specs.Str.{bytes_eq}
use Rattle.circuit_core.specs.Circuit.{qubit_count}
use Rattle.circuit_core.specs.Label.{label_in}
use Rattle.circuit_core.proofs.Labels.{find_on}
use Rattle.circuit_core.proofs.circuit.Circuit.find.Goals as goal

pub loop-number-preserved : goal.loop-number-preserved
loop-number-preserved c =
    c.loop-number.invariant
    ∙ find_on (λ number. bytes_eq (label_in c.args.self.now.qregs number) c.args.label.now) c.loop-number.number (qubit_count c.args.self.now) (search rules) (search rules)
