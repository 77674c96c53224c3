use Rattle.circuit_core.proofs.CircuitLabels.{label_free, bit_label_free}
use Rattle.circuit_core.proofs.laws.labels_are_words.Goals as goal

pub returns : goal.returns
returns c = record {
  qubits = λ circuit qubit byte is h other. label_free circuit qubit.0 byte is h other;
  bits = λ circuit bit byte is h other. bit_label_free circuit bit.0 byte is h other;
}
