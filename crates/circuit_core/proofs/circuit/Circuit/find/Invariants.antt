use Rattle.std.proofs.Common.{◌≡◌, ◌-◌}
use Rattle.std.specs.Prelude.{find}
use Rattle.std.specs.List.{range_with_len}
use Rattle.std.specs.Str.{bytes_eq}
use Rattle.circuit_core.specs.Circuit.{qubit_count}
use Rattle.circuit_core.specs.Label.{label_in, labelled}
use Rattle.circuit_core.proofs.circuit.Circuit.find.Given as goal

abbrev pub invariant-loop-number : goal.invariant-loop-number
invariant-loop-number l =
    labelled l.fn.self l.fn.label ≡ find (λ number. bytes_eq (label_in l.fn.self.qregs number) l.fn.label) (range_with_len l.number (qubit_count l.fn.self - l.number))
