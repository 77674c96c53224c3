use Rattle.derivation_check.proofs.Bounds.{is_nothing}
use Rattle.derivation_check.proofs.head.read_bound.Goals as goal

pub returns-in-Some-strip_prefix-clause-only : goal.returns-in-Some-strip_prefix-clause-only
returns-in-Some-strip_prefix-clause-only c = λ bound rest known e. is_nothing bound c.args.bytes.now c.in-Some.left.now c.in-Some-strip_prefix.rest.now rest c.in-Some.ensures.found c.in-Some-strip_prefix.ensures.found known e
