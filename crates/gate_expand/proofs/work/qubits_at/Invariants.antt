use Rattle.std.proofs.Common.{◌≡◌, take}
use Rattle.gate_expand.specs.Expansion.{qubits_at}
use Rattle.gate_expand.proofs.work.qubits_at.Given as goal

abbrev pub invariant-loop-k : goal.invariant-loop-k
invariant-loop-k l = l.picked.items ≡ qubits_at l.qubits (take l.k-index l.positions)
