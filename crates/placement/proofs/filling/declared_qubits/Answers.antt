use Rattle.std.proofs.Common.{sym, ◌∙◌, ap, arith, ◌++◌, ◌∷◌, []}
use Rattle.std.proofs.lemmas.List.FromFn.{map-range_with_len_more}
use Rattle.placement.specs.Filling.{qubit_of}
use Rattle.placement.proofs.filling.declared_qubits.Goals as goal

pub loop-number-preserved : goal.loop-number-preserved
loop-number-preserved c =
    c.in_ok-push.ensures.items ∙ ap (λ qubits. qubits ++ qubit_of c.loop-number.number ∷ []) c.loop-number.invariant
    ∙ sym (map-range_with_len_more qubit_of 0 c.loop-number.number c.loop-number.number (omega arith))
