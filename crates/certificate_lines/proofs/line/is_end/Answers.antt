use Rattle.certificate_lines.proofs.LineText.{ends_by, not_ended}
use Rattle.certificate_lines.proofs.line.is_end.Goals as goal

pub returns-then-not-is_empty : goal.returns-then-not-is_empty
returns-then-not-is_empty c = (λ h. absurd cc, λ h. absurd (not_ended c.args.rest.now c.args.hints.now _ c.is_empty.ensures c.if-not-is_empty.true h))

pub returns : goal.returns
returns c = ends_by c.args.rest.now c.args.hints.now _ _ c.is_empty.ensures c.if-not-is_empty.false c.is_empty-2.ensures
