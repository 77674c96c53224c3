-- A text reads as its tokens or its fault, and as nothing else.
use Rattle.std.proofs.Common.{◌≡◌, ℕ, zero, suc, ◌+◌, ◌<◌, ◌≤◌, List, [], ◌∷◌, length, take, drop, Some, None, Ok, Err, refl, sym, ap, subst, ◌∙◌, arith, Option, Result, MatchOption, length-drop}
use Rattle.std.proofs.lemmas.List.{take-append-drop}
use Rattle.qasm_tokens.specs.declared.token.Token.{Token}
use Rattle.qasm_tokens.specs.declared.token.PlacedToken.{PlacedToken}
use Rattle.qasm_tokens.specs.declared.token_fault.TokenFault.{TokenFault}
use Rattle.qasm_tokens.specs.declared.token_fault.TokenFault.TheVariants.{Lex}
use Rattle.qasm_tokens.specs.declared.piece.Piece.{Piece}
use Rattle.qasm_tokens.specs.Pieces.{piece_of}
use Rattle.qasm_tokens.specs.Tokens.{token_of, open_after, tokens_from, tokens_of}
use Rattle.qasm_tokens.specs.Scan.{after_token}
use Rattle.qasm_tokens.specs.TokenForms.{IsLongest, HasNoForm}
use Rattle.qasm_tokens.specs.TokenReading.{ReadsAs, at_end, no_form, bad_token, too_deep, with_rest}
use Rattle.qasm_tokens.proofs.Pieces.{piece_stands}
use Rattle.qasm_tokens.proofs.Steps as steps
use Rattle.qasm_tokens.proofs.Longest.{longest_match, only_longest}

longest_is : (text : List ℕ) (found : Option Piece) → piece_of text ≡ found → MatchOption found (HasNoForm text) (λ piece. IsLongest text piece)
longest_is text found e = let F : Option Piece → Type 0 = λ o. MatchOption o (HasNoForm text) (λ piece. IsLongest text piece) in subst F e (longest_match text)

none_cases : (text : List ℕ) (found : Option Piece) → MatchOption found (HasNoForm text) (λ piece. IsLongest text piece) → HasNoForm text → found ≡ None
none_cases text None m h = refl
none_cases text (Some piece) m h = absurd (h (take piece.length text) (drop piece.length text) piece.shape (sym (take-append-drop piece.length text)) m.form)

no_piece : (text : List ℕ) → HasNoForm text → piece_of text ≡ None
no_piece text h = none_cases text (piece_of text) (longest_match text) h

nothing_left : (at depth : ℕ) → tokens_from at depth 0 [] ≡ Ok []
unfolding tokens_from
nothing_left at depth = refl

-- what a text reads as are its tokens or its fault
exact : {at depth : ℕ} {text : List ℕ} {answer : Result (List PlacedToken) TokenFault} → ReadsAs at depth text answer → tokens_from at depth 0 text ≡ answer
exact {at} {depth} at_end = nothing_left at depth
exact {at} {depth} {text} (no_form some none) = steps.no_piece at depth text some (no_piece text none)
exact {at} {depth} {text} (bad_token {fault = fault} piece longest bad) = steps.bad_token at depth text piece fault (only_longest text piece longest) bad
exact {at} {depth} {text} (too_deep {fault = fault} piece token longest good deep) = steps.too_deep at depth text piece token fault (only_longest text piece longest) good deep
exact {at} {depth} {text} (with_rest piece token deeper rest longest good open_there reads is) =
    (steps.reads_on at depth deeper text piece token (only_longest text piece longest) good open_there).reads ∙ ap (after_token at token) (exact reads) ∙ sym is

abbrev Reading : ℕ → ℕ → List ℕ → Type 0
Reading at depth text = ReadsAs at depth text (tokens_from at depth 0 text)

as_is : (at depth : ℕ) (text : List ℕ) (answer : Result (List PlacedToken) TokenFault) → tokens_from at depth 0 text ≡ answer → ReadsAs at depth text answer → Reading at depth text
as_is at depth text answer e r = subst (ReadsAs at depth text) (sym e) r

-- one piece, where shorter texts read so
module _ (n : ℕ) (shorter : (at depth : ℕ) (text : List ℕ) → length text ≤ n → Reading at depth text) (at depth : ℕ) (text : List ℕ) (fits : length text ≤ suc n) (some : 0 < length text) where
  by_depth : (piece : Piece) (token : Option Token) (there : Result ℕ TokenFault) → piece_of text ≡ Some piece → token_of at piece.shape (take piece.length text) ≡ Ok token → open_after at depth piece.shape ≡ there → Reading at depth text
  by_depth piece token (Err fault) e good there = as_is at depth text (Err fault) (steps.too_deep at depth text piece token fault e good there) (too_deep piece token (longest_is text (Some piece) e) good there)
  by_depth piece token (Ok deeper) e good there =
      let stands = piece_stands text piece e in
      let rest = shorter (at + piece.length) deeper (drop piece.length text) (omega (arith, length-drop piece.length text, stands.some)) in
      with_rest piece token deeper (tokens_from (at + piece.length) deeper 0 (drop piece.length text)) (longest_is text (Some piece) e) good there rest (steps.reads_on at depth deeper text piece token e good there).reads

  by_token : (piece : Piece) (token : Result (Option Token) TokenFault) → piece_of text ≡ Some piece → token_of at piece.shape (take piece.length text) ≡ token → Reading at depth text
  by_token piece (Err fault) e bad = as_is at depth text (Err fault) (steps.bad_token at depth text piece fault e bad) (bad_token piece (longest_is text (Some piece) e) bad)
  by_token piece (Ok token) e good = by_depth piece token (open_after at depth piece.shape) e good refl

  by_piece : (found : Option Piece) → piece_of text ≡ found → Reading at depth text
  by_piece None e = as_is at depth text (Err (Lex at)) (steps.no_piece at depth text some e) (no_form some (longest_is text None e))
  by_piece (Some piece) e = by_token piece (token_of at piece.shape (take piece.length text)) e refl

reads_within : (n at depth : ℕ) (text : List ℕ) → length text ≤ n → Reading at depth text
reads_within n at depth [] h = as_is at depth [] (Ok []) (nothing_left at depth) at_end
reads_within zero at depth (b ∷ text) h = absurd (omega (arith, h))
reads_within (suc n) at depth (b ∷ text) h = by_piece n (reads_within n) at depth (b ∷ text) h (omega arith) (piece_of (b ∷ text)) refl

pub reads : (text : List ℕ) → ReadsAs 0 0 text (tokens_of text)
reads text = reads_within (length text) 0 0 text (omega arith)

pub only_reading : (text : List ℕ) (answer : Result (List PlacedToken) TokenFault) → ReadsAs 0 0 text answer → answer ≡ tokens_of text
only_reading text answer r = sym (exact r)
