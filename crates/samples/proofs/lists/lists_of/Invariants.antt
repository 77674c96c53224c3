use Rattle.std.proofs.Common.{◌<◌, List, flat_map, All}
use Rattle.qc_base.specs.declared.ids.Qubit.{Qubit}
use Rattle.samples.proofs.lists.lists_of.Given as goal

-- the qubits so far are below the count
abbrev pub invariant-loop-numbers : goal.invariant-loop-numbers
invariant-loop-numbers l =
    All (λ (qubit : Qubit). qubit.0 < l.count) (flat_map (λ (list : List Qubit). list) l.lists.items)
