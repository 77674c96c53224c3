use Rattle.certificate_lines.proofs.Spelled.{end_of_hints}
use Rattle.certificate_lines.proofs.items.read_hint.Goals as goal

pub returns-in-Some-clause-only : goal.returns-in-Some-clause-only
returns-in-Some-clause-only c = λ item rest may e. end_of_hints c.args.number item c.args.bytes.now c.in-Some.rest.now rest c.ranges.number.fits c.in-Some.ensures.found may e
