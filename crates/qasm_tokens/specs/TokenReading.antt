-- How a text reads, from the left: a relation that says nothing of how the tokens are found.
use Rattle.std.specs.Prelude.{◌≡◌, ℕ, ◌+◌, ◌<◌, List, [], length, take, drop, Option, Result, Ok, Err}
use Rattle.qasm_tokens.specs.declared.token.Token.{Token}
use Rattle.qasm_tokens.specs.declared.token.PlacedToken.{PlacedToken}
use Rattle.qasm_tokens.specs.declared.token_fault.TokenFault.{TokenFault}
use Rattle.qasm_tokens.specs.declared.token_fault.TokenFault.TheVariants.{Lex}
use Rattle.qasm_tokens.specs.declared.piece.Piece.{Piece}
use Rattle.qasm_tokens.specs.Tokens.{token_of, open_after}
use Rattle.qasm_tokens.specs.Scan.{after_token}
use Rattle.qasm_tokens.specs.TokenForms.{IsLongest, HasNoForm}

-- A text whose first byte has a place, where so many parentheses are open, reads as its tokens or as its leftmost
-- fault:
--   at_end     no byte is left
--   no_form    no front of the text is of any form
--   bad_token  the longest match is no token, as its word is unknown or long or its number large
--   too_deep   the longest match is a parenthesis after which too many are open
--   with_rest    the longest match is a token, or white space or a comment, and the bytes after it read so
pub data ReadsAs : ℕ → ℕ → List ℕ → Result (List PlacedToken) TokenFault → Type 0 where
  at_end : {at depth : ℕ} → ReadsAs at depth [] (Ok [])
  no_form : {at depth : ℕ} {text : List ℕ} → 0 < length text → HasNoForm text → ReadsAs at depth text (Err (Lex at))
  bad_token : {at depth : ℕ} {text : List ℕ} {fault : TokenFault} (piece : Piece) → IsLongest text piece
      → token_of at piece.shape (take piece.length text) ≡ Err fault → ReadsAs at depth text (Err fault)
  too_deep : {at depth : ℕ} {text : List ℕ} {fault : TokenFault} (piece : Piece) (token : Option Token)
      → IsLongest text piece → token_of at piece.shape (take piece.length text) ≡ Ok token
      → open_after at depth piece.shape ≡ Err fault → ReadsAs at depth text (Err fault)
  with_rest : {at depth : ℕ} {text : List ℕ} {answer : Result (List PlacedToken) TokenFault} (piece : Piece)
      (token : Option Token) (deeper : ℕ) (rest : Result (List PlacedToken) TokenFault) → IsLongest text piece
      → token_of at piece.shape (take piece.length text) ≡ Ok token → open_after at depth piece.shape ≡ Ok deeper
      → ReadsAs (at + piece.length) deeper (drop piece.length text) rest → answer ≡ after_token at token rest
      → ReadsAs at depth text answer
