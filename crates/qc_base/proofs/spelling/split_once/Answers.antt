use Rattle.std.proofs.Common.{sym, ◌∙◌, ◌+◌, length}
use Rattle.std.proofs.lemmas.Option.{none-some}
use Rattle.std.proofs.lemmas.List.{take_rest}
use Rattle.qc_base.proofs.Words.{place_of_word, around_sign, same_word, free_before}
use Rattle.qc_base.proofs.spelling.split_once.Goals as goal

pub returns-in_err-end-clause-only : goal.returns-in_err-end-clause-only
returns-in_err-end-clause-only c = λ word rest free e. absurd (none-some (length word) (c.in_err-end.ensures ∙ place_of_word c.args.sign word rest c.args.bytes.now free e))

pub returns-clause-found : goal.returns-clause-found
returns-clause-found c = rw (take_rest c.args.bytes.now (c.in_ok-end.end + 1)) (around_sign c.args.sign c.in_ok-end.end c.args.bytes.now (sym c.in_ok-end.ensures))

pub returns-clause-free : goal.returns-clause-free
returns-clause-free c = free_before c.args.sign c.in_ok-end.end c.args.bytes.now (sym c.in_ok-end.ensures)

pub returns-clause-only : goal.returns-clause-only
returns-clause-only c = λ word rest free e.
    let read = same_word c.args.sign c.in_ok-end.end word rest c.args.bytes.now free e (sym c.in_ok-end.ensures) in
    (read.0, take_rest c.args.bytes.now (c.in_ok-end.end + 1) ∙ read.1)
