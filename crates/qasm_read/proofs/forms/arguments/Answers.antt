use Rattle.std.proofs.Common.{◌≡◌, true, false, sym, ◌∙◌}
use Rattle.qasm_tokens.specs.declared.token.Sign.TheVariants.{Comma}
use Rattle.qasm_read.specs.Reading.{comes, after_sign, argument_at, commas_at}
use Rattle.qasm_read.proofs.Lists.{repeat_end}
use Rattle.qasm_read.proofs.Loops.{commas_more, commas_none, handed_on, short_argument}
use Rattle.qasm_read.proofs.forms.arguments.Goals as goal

pub returns-in_err-argument-2 : goal.returns-in_err-argument-2
returns-in_err-argument-2 g c =
    let on : comes Comma c.loop-tokens.tokens ≡ true = cc in
    handed_on c.from_residual-in_err-argument-2.result c.in_err-argument-2.field-0.0 c.argument-in-loop-tokens.new.tokens c.argument-in-loop-tokens.new.tokens (argument_at c.skip.new.self) (commas_at argument_at c.args.tokens.now) c.from_residual-in_err-argument-2.ensures.1 c.in_err-argument-2.ensures
    (λ e. sym c.loop-tokens.invariant ∙ commas_none argument_at short_argument c.loop-tokens.args.items c.loop-tokens.tokens c.skip.new.self on c.in_ok-skip.ensures e)

pub loop-tokens-preserved : goal.loop-tokens-preserved
loop-tokens-preserved g c =
    let on : comes Comma c.loop-tokens.tokens ≡ true = cc in
    let e = commas_more argument_at short_argument c.loop-tokens.args.items c.loop-tokens.tokens c.skip.new.self c.argument-in-loop-tokens.new.tokens c.in_ok-argument-2.field-0 on c.in_ok-skip.ensures c.in_ok-argument-2.ensures in
    cc (e, c.in_ok-push-2.ensures.items)

pub returns : goal.returns
returns g c =
    let off : comes Comma c.loop-tokens.tokens ≡ false = cc in
    let e = repeat_end (comes Comma) (after_sign Comma argument_at) short_argument c.loop-tokens.args.items c.loop-tokens.tokens off in
    cc (e, c.from_vec.ensures)
