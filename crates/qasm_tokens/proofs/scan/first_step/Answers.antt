use Rattle.std.proofs.Common.{sym, ◌∙◌}
use Rattle.std.proofs.lemmas.List.{length-take-le}
use Rattle.std.proofs.lemmas.Result.{err_from_is_err_and}
use Rattle.qasm_tokens.proofs.Pieces.{piece_stands}
use Rattle.qasm_tokens.proofs.Steps.{no_piece, bad_token, too_deep, reads_on}
use Rattle.qasm_tokens.proofs.scan.first_step.Goals as goal

pub returns-in_default : goal.returns-in_default
returns-in_default c = no_piece c.args.at c.args.depth c.args.text.now c.requires.some (sym c.piece_of.ensures ∙ c.in_default.is)

pub lexeme_of-requires : goal.lexeme_of-requires
lexeme_of-requires c = (piece_stands c.args.text.now c.in-Some.piece (sym c.in-Some.ensures)).shape

pub returns-in_err-lexeme : goal.returns-in_err-lexeme
returns-in_err-lexeme c =
    let p = err_from_is_err_and c.from_residual.result c.from_residual.ensures.1 in
    rw (p.1, p.2) (bad_token c.args.at c.args.depth c.args.text.now c.in-Some.piece c.in_err-lexeme.field-0.0 (sym c.in-Some.ensures) c.in_err-lexeme.ensures)

pub returns-in_err-depth : goal.returns-in_err-depth
returns-in_err-depth c =
    let p = err_from_is_err_and c.from_residual-in_err-depth.result c.from_residual-in_err-depth.ensures.1 in
    rw (p.1, p.2) (too_deep c.args.at c.args.depth c.args.text.now c.in-Some.piece _ c.in_err-depth.field-0.0 (sym c.in-Some.ensures) c.in_ok-lexeme.ensures (sym c.in_err-depth.ensures))

pub returns : goal.returns
returns c = reads_on c.args.at c.args.depth c.in_ok-depth.depth c.args.text.now c.in-Some.piece _ (sym c.in-Some.ensures) c.in_ok-lexeme.ensures (sym c.in_ok-depth.ensures)

pub slice_bounds-lexeme_of-end : goal.slice_bounds-lexeme_of-end
slice_bounds-lexeme_of-end c = sym (length-take-le c.in-Some.piece.length c.args.text.now (piece_stands c.args.text.now c.in-Some.piece (sym c.in-Some.ensures)).within)
