-- The numbers of operations of which one has to come before the other.
use Rattle.std.proofs.Common.{ℕ, ◌<◌, length}
use Rattle.std.proofs.lemmas.Option.{slice_get_within}
use Rattle.qc_base.specs.declared.ids.OpId.{OpId}
use Rattle.circuit_core.specs.Circuit.{CircuitValue}
use Rattle.circuit_core.specs.Order.{Forced, by_wire, by_barrier}

abbrev pub numbered : ℕ → OpId
numbered number = record { 0 = number }

pub forced_within : (circuit : CircuitValue) (i j : ℕ) → Forced circuit i j → i < length circuit.ops
forced_within circuit _ _ (by_wire i j before share) = slice_get_within circuit.ops i share.first share.at_i
forced_within circuit _ _ (by_barrier i k j barrier first second) = forced_within circuit i k first
