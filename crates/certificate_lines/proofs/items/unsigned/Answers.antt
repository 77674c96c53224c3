use Rattle.std.proofs.Common.{sym, ◌∙◌}
use Rattle.certificate_lines.proofs.Spelled.{sign_is_minus, no_sign}
use Rattle.certificate_lines.proofs.items.unsigned.Goals as goal

pub returns-in-Some-clause-only : goal.returns-in-Some-clause-only
returns-in-Some-clause-only c = λ positive number rest some small e. sign_is_minus c.in-Some.digits.now positive number rest some small (sym c.in-Some.ensures.found ∙ e)

pub returns-in-None-clause-only : goal.returns-in-None-clause-only
returns-in-None-clause-only c = λ positive number rest some small e. no_sign c.args.bytes.now positive number rest c.in-None.ensures.only e
