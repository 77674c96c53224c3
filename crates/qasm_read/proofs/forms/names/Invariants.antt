use Rattle.std.proofs.Common.{◌≡◌, length}
use Rattle.qasm_tokens.specs.declared.token.Sign.TheVariants.{Comma}
use Rattle.qasm_read.specs.Reading.{name_at, comes, after_sign, with_front, repeat_at, commas_at}
use Rattle.qasm_read.proofs.forms.names.Given as goal

-- those so far, and those that follow after commas
abbrev pub invariant-loop-tokens : goal.invariant-loop-tokens
invariant-loop-tokens g l = with_front l.names.items (repeat_at (comes Comma) (after_sign Comma name_at) l.tokens) ≡ commas_at name_at l.fn.tokens

abbrev pub decreases-loop-tokens : goal.decreases-loop-tokens
decreases-loop-tokens g l = length l.tokens.placed
