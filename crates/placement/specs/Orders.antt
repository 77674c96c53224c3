-- ---- working notions of private functions: orders of qubits
use Rattle.std.specs.Prelude.{◌≡◌, ℕ, ◌<◌, Bool, List, All}
use Rattle.qc_base.specs.declared.ids.Qubit.{Qubit}
use Rattle.circuit_core.specs.Circuit.{CircuitValue, qubit_count}
use Rattle.step_rules.specs.Placement.{times}
use Rattle.step_rules.specs.Flags.{AreFlags}
use Rattle.placement.specs.FirstUse.{without_repeats}

-- the qubits of the circuit, each once
pub record IsOrder (circuit : CircuitValue) (qubits : List Qubit) : Type 0 where
  pub below : All (λ (qubit : Qubit). qubit.0 < qubit_count circuit) qubits
  pub once : (k : ℕ) → k < qubit_count circuit → times k qubits ≡ 1

-- the qubits of these uses by first use, with a flag for each
pub record AreUsed (qubits : List Qubit) (flags : List Bool) (uses : List Qubit) : Type 0 where
  pub order : qubits ≡ without_repeats uses
  pub flagged : AreFlags flags uses
