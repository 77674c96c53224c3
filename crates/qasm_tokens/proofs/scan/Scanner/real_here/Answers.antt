use Rattle.std.proofs.Common.{sym, ◌∙◌, ap, ℕ, List, arith}
use Rattle.std.specs.Char.{is_ascii_digit}
use Rattle.std.specs.List.{prefix_len}
use Rattle.std.proofs.lemmas.List.{take_rest}
use Rattle.qasm_tokens.specs.Pieces.{real_len}
use Rattle.qasm_tokens.proofs.Reals.{no_real_within}
use Rattle.qasm_tokens.proofs.scan.Scanner.real_here.Goals as goal

pub invariant_of-self-clause-no_real : goal.invariant_of-self-clause-no_real
invariant_of-self-clause-no_real c = λ place low high.
    let bytes = c.args.self.now.bytes.now in
    let at = c.args.self.now.at in
    let left = take_rest bytes at in
    let none = ap real_len (sym left) ∙ sym c.real_len-real.ensures.exact ∙ c.if-real-eq0.true in
    let digits = c.digits_len.ensures.exact ∙ ap (λ (text : List ℕ). prefix_len is_ascii_digit text) left in
    no_real_within bytes at place none low (omega (arith, high, digits))
