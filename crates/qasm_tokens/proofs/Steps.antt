-- How the tokens of a text follow from its first piece.
use Rattle.std.proofs.Common.{◌≡◌, ℕ, zero, suc, ◌+◌, ◌-◌, ◌<◌, ◌≤◌, List, [], ◌∷◌, length, take, drop, Some, None, Ok, Err, refl, ap, ◌∙◌, arith, Option}
use Rattle.qasm_tokens.specs.declared.token.Token.{Token}
use Rattle.qasm_tokens.specs.declared.token_fault.TokenFault.{TokenFault}
use Rattle.qasm_tokens.specs.declared.token_fault.TokenFault.TheVariants.{Lex}
use Rattle.qasm_tokens.specs.declared.piece.Piece.{Piece}
use Rattle.qasm_tokens.specs.Pieces.{piece_of}
use Rattle.qasm_tokens.specs.Tokens.{token_of, open_after, tokens_from}
use Rattle.qasm_tokens.specs.Scan.{Reads}
use Rattle.std.proofs.lemmas.List.{drop_all}
use Rattle.qasm_tokens.proofs.Pieces.{piece_stands}

-- the bytes of the piece before are passed over
pub passed_over : (at depth n : ℕ) (text : List ℕ) → n ≤ length text → tokens_from at depth n text ≡ tokens_from (at + n) depth 0 (drop n text)
unfolding tokens_from
passed_over at depth zero [] h = refl
passed_over at depth zero (b ∷ text) h = ap (λ a. tokens_from a depth 0 (b ∷ text)) (omega arith)
passed_over at depth (suc n) [] h = absurd (omega arith)
passed_over at depth (suc n) (b ∷ text) h = passed_over (at + 1) depth n text (omega arith) ∙ ap (λ a. tokens_from a depth 0 (drop n text)) (omega arith)

pub no_piece : (at depth : ℕ) (text : List ℕ) → 0 < length text → piece_of text ≡ None → tokens_from at depth 0 text ≡ Err (Lex at)
unfolding tokens_from
no_piece at depth [] h e = absurd (omega arith)
no_piece at depth (b ∷ text) h e = rw e refl

pub bad_token : (at depth : ℕ) (text : List ℕ) (piece : Piece) (fault : TokenFault) → piece_of text ≡ Some piece → token_of at piece.shape (take piece.length text) ≡ Err fault → tokens_from at depth 0 text ≡ Err fault
unfolding tokens_from
bad_token at depth [] piece fault e t = absurd (omega (arith, (piece_stands [] piece e).some, (piece_stands [] piece e).within))
bad_token at depth (b ∷ text) piece fault e t = rw (e, t) refl

pub too_deep : (at depth : ℕ) (text : List ℕ) (piece : Piece) (token : Option Token) (fault : TokenFault) → piece_of text ≡ Some piece → token_of at piece.shape (take piece.length text) ≡ Ok token → open_after at depth piece.shape ≡ Err fault → tokens_from at depth 0 text ≡ Err fault
unfolding tokens_from
too_deep at depth [] piece token fault e t o = absurd (omega (arith, (piece_stands [] piece e).some, (piece_stands [] piece e).within))
too_deep at depth (b ∷ text) piece token fault e t o = rw (e, t, o) refl

after_first : (n b : ℕ) (text : List ℕ) → 0 < n → drop (n - 1) text ≡ drop n (b ∷ text)
after_first zero b text h = absurd (omega (arith, h))
after_first (suc n) b text h = let e : suc n - 1 ≡ n = omega arith in rw e refl

pub reads_on : (at depth deeper : ℕ) (text : List ℕ) (piece : Piece) (token : Option Token) → piece_of text ≡ Some piece → token_of at piece.shape (take piece.length text) ≡ Ok token → open_after at depth piece.shape ≡ Ok deeper → Reads at depth text token piece.length deeper
unfolding tokens_from
reads_on at depth deeper [] piece token e t o = absurd (omega (arith, (piece_stands [] piece e).some, (piece_stands [] piece e).within))
reads_on at depth deeper (b ∷ text) piece token e t o =
    let stands = piece_stands (b ∷ text) piece e in
    let moved = passed_over (at + 1) deeper (piece.length - 1) text (omega (arith, stands.within)) in
    let rest = after_first piece.length b text stands.some in
    let place : at + 1 + (piece.length - 1) ≡ at + piece.length = omega (arith, stands.some) in
    record {
      some = stands.some;
      within = stands.within;
      reads = rw (e, t, o, moved, rest, place) refl;
    }

-- after the last byte there are no tokens
pub at_end : (at depth : ℕ) (text : List ℕ) → length text ≤ at → tokens_from at depth 0 (drop at text) ≡ Ok []
unfolding tokens_from
at_end at depth text h = rw (drop_all at text h) refl
