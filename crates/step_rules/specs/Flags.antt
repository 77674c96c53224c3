-- A table of which qubits occur.
use Rattle.std.specs.Prelude.{◌≡◌, ℕ, ◌<◌, Bool, false, List, length, slice_index_or}
use Rattle.qc_base.specs.declared.ids.Qubit.{Qubit}
use Rattle.circuit_core.specs.Deciding.{is_listed}

-- the flag of each number says whether that qubit is among these
abbrev pub AreFlags : List Bool → List Qubit → Type 0
AreFlags flags qubits =
    (number : ℕ) → number < length flags → slice_index_or flags number false ≡ is_listed number qubits
