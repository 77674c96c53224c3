use Rattle.std.proofs.Common.{◌≡◌, length}
use Rattle.qasm_tokens.specs.declared.token.Sign.TheVariants.{Comma}
use Rattle.qasm_read.specs.Reading.{comes, after_sign, with_front, repeat_at, commas_at}
use Rattle.qasm_read.specs.Expressions.{exp_at}
use Rattle.qasm_read.proofs.forms.expressions.Given as goal

-- those so far, and those that follow after commas
abbrev pub invariant-loop-alloc : goal.invariant-loop-alloc
invariant-loop-alloc g l = with_front l.exps.items (repeat_at (comes Comma) (after_sign Comma exp_at) l.tokens) ≡ commas_at exp_at l.fn.tokens

abbrev pub decreases-loop-alloc : goal.decreases-loop-alloc
decreases-loop-alloc g l = length l.tokens.placed
