use Rattle.std.proofs.Common.{◌≡◌, drop}
use Rattle.placement.specs.Named.{qubits_named}
use Rattle.placement.proofs.Labels.{with_front}
use Rattle.placement.proofs.named.qubits_named.Given as goal

abbrev pub invariant-loop-label : goal.invariant-loop-label
invariant-loop-label l = with_front l.qubits.items (qubits_named l.circuit l.zone.0 (drop l.label-index l.labels)) ≡ qubits_named l.circuit l.zone.0 l.labels
