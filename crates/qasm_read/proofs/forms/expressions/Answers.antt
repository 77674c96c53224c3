use Rattle.std.proofs.Common.{◌≡◌, true, false, sym, ◌∙◌}
use Rattle.qasm_tokens.specs.declared.token.Sign.TheVariants.{Comma}
use Rattle.qasm_read.specs.Reading.{comes, after_sign, commas_at}
use Rattle.qasm_read.specs.Expressions.{exp_at}
use Rattle.qasm_read.proofs.Lists.{repeat_end}
use Rattle.qasm_read.proofs.Loops.{commas_more, commas_none, handed_on, short_exp}
use Rattle.qasm_read.proofs.forms.expressions.Goals as goal

pub returns-in_err-expression-2 : goal.returns-in_err-expression-2
returns-in_err-expression-2 g c =
    let on : comes Comma c.loop-alloc.tokens ≡ true = cc in
    handed_on c.from_residual-in_err-expression-2.result c.in_err-expression-2.field-0.0 c.expression-in-loop-alloc.new.tokens c.expression-in-loop-alloc.new.tokens (exp_at c.skip.new.self) (commas_at exp_at c.args.tokens.now) c.from_residual-in_err-expression-2.ensures.1 c.in_err-expression-2.ensures
    (λ e. sym c.loop-alloc.invariant ∙ commas_none exp_at short_exp c.loop-alloc.exps.items c.loop-alloc.tokens c.skip.new.self on c.in_ok-skip.ensures e)

pub loop-alloc-preserved : goal.loop-alloc-preserved
loop-alloc-preserved g c =
    let on : comes Comma c.loop-alloc.tokens ≡ true = cc in
    let e = commas_more exp_at short_exp c.loop-alloc.exps.items c.loop-alloc.tokens c.skip.new.self c.expression-in-loop-alloc.new.tokens c.in_ok-expression-2.field-0 on c.in_ok-skip.ensures c.in_ok-expression-2.ensures in
    cc (e, c.in_ok-push-2.ensures.items)

pub loop-alloc-smaller : goal.loop-alloc-smaller
loop-alloc-smaller g c = short_exp c.loop-alloc.tokens c.in_ok-expression-2.field-0 c.expression-in-loop-alloc.new.tokens (rw (c.in_ok-skip.ensures) c.in_ok-expression-2.ensures)

pub returns : goal.returns
returns g c =
    let off : comes Comma c.loop-alloc.tokens ≡ false = cc in
    let e = repeat_end (comes Comma) (after_sign Comma exp_at) short_exp c.loop-alloc.exps.items c.loop-alloc.tokens off in
    cc (e, c.from_vec.ensures)
