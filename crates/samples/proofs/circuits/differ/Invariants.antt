use Rattle.std.proofs.Common.{◌≢◌, ℕ, ◌<◌, get_or}
use Rattle.qc_base.specs.declared.ids.Qubit.{Qubit}
use Rattle.samples.proofs.circuits.differ.Given as goal

-- the qubits before differ
abbrev pub invariant-loop-k : goal.invariant-loop-k
invariant-loop-k l = (i j : ℕ) (d : Qubit) → i < j → j < l.k → get_or l.qubits i d ≢ get_or l.qubits j d
