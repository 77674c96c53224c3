-- The numbers of an operation's ions, written one after another.
use Rattle.std.proofs.Common.{◌≡◌, ℕ, ◌+◌, List, ◌∷◌, ◌++◌, Some, sym, ap, ◌∙◌, append_assoc, drop}
use Rattle.std.specs.Prelude.{codes, decimal, slice_get}
use Rattle.std.proofs.lemmas.List.{drop_more}
use Rattle.std.proofs.lemmas.Option.{slice_get_within, get_or_from_slice_get}
use Rattle.qc_base.specs.declared.ids.Qubit.{Qubit}
use Rattle.step_rules.specs.Placement.{ion_of}
use Rattle.schedule_text.specs.Text.{ions_text}

-- what was written before an ion of a list, and what is written after it
pub next_ion : (placement : List (List Qubit)) (qubits : List Qubit) (k : ℕ) (qubit : Qubit) (out all : List ℕ) → slice_get qubits k ≡ Some qubit
    → out ++ ions_text placement (drop k qubits) ≡ all
    → ((out ++ codes " ") ++ decimal (ion_of placement qubit).0) ++ ions_text placement (drop (k + 1) qubits) ≡ all
next_ion placement qubits k qubit out all at e =
    let number = decimal (ion_of placement qubit).0 in
    let rest = ions_text placement (drop (k + 1) qubits) in
    let here = drop_more qubits k qubit (slice_get_within qubits k qubit at) ∙ ap (λ q. q ∷ drop (k + 1) qubits) (get_or_from_slice_get qubits k qubit qubit at) in
    let parted : ((out ++ codes " ") ++ number) ++ rest ≡ out ++ ((codes " " ++ number) ++ rest) = simp append_assoc in
    parted ∙ ap (λ qs. out ++ ions_text placement qs) (sym here) ∙ e
