use Rattle.std.specs.Prelude.{decimal}
use Rattle.std.proofs.lemmas.Option.{none-some, same_Some}
use Rattle.qc_base.proofs.Words.{free_decimal}
use Rattle.qc_base.proofs.spelling.number_until.Goals as goal

pub returns-in_err-digits-clause-only : goal.returns-in_err-digits-clause-only
returns-in_err-digits-clause-only c = λ number rest small e. absurd (c.in_err-digits.ensures.only (decimal number) rest (free_decimal c.args.sign number c.requires small) e)

pub returns-in_err-number-clause-only : goal.returns-in_err-number-clause-only
returns-in_err-number-clause-only c = λ number rest small e.
    let read = c.in_ok-digits.ensures.only (decimal number) rest (free_decimal c.args.sign number c.requires small) e in
    absurd (none-some number (c.in_err-number.ensures.only number small read.0))

pub returns-clause-only : goal.returns-clause-only
returns-clause-only c = λ number rest small e.
    let read = c.in_ok-digits.ensures.only (decimal number) rest (free_decimal c.args.sign number c.requires small) e in
    (same_Some c.in_ok-number.number number (c.in_ok-number.ensures.only number small read.0), read.1)
