-- A set of qubits as a table of flags.
use Rattle.std.specs.Prelude.{◌≡◌, ℕ, ◌<◌, Bool, false, List, length, All, slice_index_or}
use Rattle.qc_base.specs.declared.ids.Qubit.{Qubit}
use Rattle.circuit_core.specs.Deciding.{is_listed}

-- the flag of each of 128 numbers says whether that qubit is among these
pub record AreFlags (flags : List Bool) (qubits : List Qubit) : Type 0 where
  pub len : length flags ≡ 128
  pub each : (number : ℕ) → number < 128 → slice_index_or flags number false ≡ is_listed number qubits

-- each has a flag
abbrev pub AreBelow : List Qubit → Type 0
AreBelow qubits = All (λ (qubit : Qubit). qubit.0 < 128) qubits
