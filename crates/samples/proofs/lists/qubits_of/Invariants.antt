use Rattle.std.proofs.Common.{◌<◌, All}
use Rattle.qc_base.specs.declared.ids.Qubit.{Qubit}
use Rattle.samples.proofs.lists.qubits_of.Given as goal

-- the qubits so far are below the count
abbrev pub invariant-loop-number : goal.invariant-loop-number
invariant-loop-number l = All (λ (qubit : Qubit). qubit.0 < l.count) l.qubits.items
