-- A token whose text still lies in the file, and how the rest of a file is read.
use Rattle.std.specs.Prelude.{◌≡◌, ℕ, ◌+◌, ◌<◌, ◌≤◌, List, [], length, drop, Option, Some, None, Result, Ok}
use Rattle.std.specs.Str.Parse.{IsNumeral}
use Rattle.qasm_tokens.specs.declared.token.Token.{Token}
use Rattle.qasm_tokens.specs.declared.token.Token.TheVariants as tokens
use Rattle.qasm_tokens.specs.declared.token.PlacedToken.{PlacedToken}
use Rattle.qasm_tokens.specs.declared.token_fault.TokenFault.{TokenFault}
use Rattle.qasm_tokens.specs.declared.piece.Shape.{Shape}
use Rattle.qasm_tokens.specs.declared.piece.Shape.TheVariants as shapes
use Rattle.qasm_tokens.specs.declared.lexeme.Lexeme.{Lexeme}
use Rattle.qasm_tokens.specs.declared.lexeme.Lexeme.TheVariants as lexemes
use Rattle.qasm_tokens.specs.declared.lexeme.PlacedLexeme.{PlacedLexeme}
use Rattle.qasm_tokens.specs.Pieces.{real_len}
use Rattle.qasm_tokens.specs.Tokens.{◌>>=◌, with_front, tokens_from}

-- the token that a text in the file is
abbrev pub token_seen : Lexeme → Token
token_seen (lexemes.Keyword keyword) = tokens.Keyword keyword
token_seen (lexemes.Identifier text) = tokens.Identifier text.now
token_seen (lexemes.Integer value) = tokens.Integer value
token_seen (lexemes.Real text) = tokens.Real text.now
token_seen (lexemes.Text text) = tokens.Text text.now
token_seen (lexemes.Sign sign) = tokens.Sign sign

-- what the text of a piece has by its shape
abbrev pub HasShape : Shape → List ℕ → Type 0
HasShape shapes.Integer text = IsNumeral 10 text
HasShape shapes.Text text = 2 ≤ length text
HasShape shape text = Unit {0}

-- what a text reads as whose first piece is this token, or none, and whose rest reads so
abbrev pub after_token : ℕ → Option Token → Result (List PlacedToken) TokenFault → Result (List PlacedToken) TokenFault
after_token at token rest = rest >>= λ placed. Ok (with_front at token placed)

-- a text reads as this first piece and the bytes after it do
pub record Reads (at depth : ℕ) (text : List ℕ) (token : Option Token) (len deeper : ℕ) : Type 0 where
  pub some : 0 < len
  pub within : len ≤ length text
  pub reads : tokens_from at depth 0 text ≡ after_token at token (tokens_from (at + len) deeper 0 (drop len text))

-- what a text reads as from a place on, where so many parentheses are open
abbrev pub rest_from : List ℕ → ℕ → ℕ → Result (List PlacedToken) TokenFault
rest_from text at depth = tokens_from at depth 0 (drop at text)

-- a text reads so with this token first and the rest after it
abbrev pub IsNext : Option PlacedLexeme → Result (List PlacedToken) TokenFault
    → Result (List PlacedToken) TokenFault → Type 0
IsNext None reads rest = reads ≡ Ok []
IsNext (Some placed) reads rest = reads ≡ after_token placed.at (Some (token_seen placed.lexeme)) rest

-- no real begins at a place from one to the other
abbrev pub HasNoReal : List ℕ → ℕ → ℕ → Type 0
HasNoReal text from to = (place : ℕ) → from ≤ place → place < to → real_len (drop place text) ≡ 0
