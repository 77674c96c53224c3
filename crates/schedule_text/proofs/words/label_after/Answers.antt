use Rattle.std.proofs.Common.{◌++◌, sym, ◌∙◌}
use Rattle.std.proofs.lemmas.Option.{none-some, same_Some}
use Rattle.circuit_core.proofs.CircuitLabels.{labelled_there, one_qubit}
use Rattle.schedule_text.proofs.WordEnds.{label_found, label_is}
use Rattle.schedule_text.proofs.words.label_after.Goals as goal

pub returns-in_err-qubit-clause-only : goal.returns-in_err-qubit-clause-only
returns-in_err-qubit-clause-only c = λ qubit rest h ends e.
    let read = label_is c.args.circuit.now qubit c.in_ok-words.words.now c.word_before.result.0.now c.word_before.result.1.now rest c.requires h c.word_before.ensures.free c.word_before.ensures.ends ends c.word_before.ensures.parts
    (c.in_ok-words.ensures.only (_ ++ rest) e) in
    absurd (none-some qubit.0 (c.in_err-qubit.ensures ∙ read.0))

pub returns-clause-found : goal.returns-clause-found
returns-clause-found c =
    c.in_ok-words.ensures.found ∙ label_found c.args.circuit.now c.in_ok-qubit.qubit c.in_ok-words.words.now c.word_before.result.0.now c.word_before.result.1.now c.word_before.ensures.parts (sym c.in_ok-qubit.ensures)

pub returns-clause-there : goal.returns-clause-there
returns-clause-there c = (labelled_there c.args.circuit.now c.word_before.result.0.now c.in_ok-qubit.qubit.0 (sym c.in_ok-qubit.ensures)).0

pub returns-clause-only : goal.returns-clause-only
returns-clause-only c = λ qubit rest h ends e.
    let read = label_is c.args.circuit.now qubit c.in_ok-words.words.now c.word_before.result.0.now c.word_before.result.1.now rest c.requires h c.word_before.ensures.free c.word_before.ensures.ends ends c.word_before.ensures.parts
    (c.in_ok-words.ensures.only (_ ++ rest) e) in
    (one_qubit c.in_ok-qubit.qubit qubit (same_Some c.in_ok-qubit.qubit.0 qubit.0 (c.in_ok-qubit.ensures ∙ read.0)), read.1)
