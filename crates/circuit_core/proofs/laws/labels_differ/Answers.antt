use Rattle.circuit_core.proofs.CircuitLabels.{label_one, bit_label_one, one_qubit, one_bit}
use Rattle.circuit_core.proofs.laws.labels_differ.Goals as goal

pub returns : goal.returns
returns c = record {
  qubits = λ circuit a b is ha hb e. one_qubit a b (label_one circuit a.0 b.0 is ha hb e);
  bits = λ circuit a b is ha hb e. one_bit a b (bit_label_one circuit a.0 b.0 is ha hb e);
}
