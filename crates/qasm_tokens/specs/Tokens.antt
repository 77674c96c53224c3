-- The tokens of a circuit file, or the first fault from the left.
-- The language is OpenQASM 2.0 (arXiv:1707.03429, the appendix on its grammar), the faults are this project's profile.
use Rattle.std.specs.Prelude.{ℕ, suc, zero, ◌+◌, ◌-◌, ◌^◌, nat_lt, nat_le, Bool, false, List, [], ◌∷◌, length, take, drop, codes, Option, Some, None, Result, Ok, Err, if◌then◌else◌}
use Rattle.std.specs.Option.{option_or, ok_or}
use Rattle.std.specs.Char.{is_ascii_uppercase}
use Rattle.std.specs.Str.{bytes_eq}
use Rattle.std.specs.Str.Parse.{digits_value}
use Rattle.circuit_core.specs.Identifier.{statement_words, angle_words}
use Rattle.qasm_tokens.specs.declared.token.Keyword.{Keyword}
use Rattle.qasm_tokens.specs.declared.token.Keyword.TheVariants.{OpenQasm, U, Cx, Include, Qreg, Creg, Gate, Opaque, Measure, Reset, Barrier, If, Pi, Sin, Cos, Tan, Exp, Ln, Sqrt}
use Rattle.qasm_tokens.specs.declared.token.Sign.{Sign}
use Rattle.qasm_tokens.specs.declared.token.Sign.TheVariants.{Semicolon, LeftParenthesis, RightParenthesis, LeftBrace, RightBrace}
use Rattle.qasm_tokens.specs.declared.token.Token.{Token}
use Rattle.qasm_tokens.specs.declared.token.Token.TheVariants as tokens
use Rattle.qasm_tokens.specs.declared.token.PlacedToken.{PlacedToken}
use Rattle.qasm_tokens.specs.declared.token_fault.TokenFault.{TokenFault}
use Rattle.qasm_tokens.specs.declared.token_fault.TokenFault.TheVariants.{Lex, LongWord, BigNumber, Deep}
use Rattle.qasm_tokens.specs.declared.piece.Shape.{Shape}
use Rattle.qasm_tokens.specs.declared.piece.Shape.TheVariants as shapes
use Rattle.qasm_tokens.specs.Pieces.{piece_of}

-- what follows is read only where there is no fault before
infixl 10 ◌>>=◌
abbrev pub ◌>>=◌ : {A B : Type 0} → Result A TokenFault → (A → Result B TokenFault) → Result B TokenFault
(Ok x) >>= f = f x
(Err e) >>= f = Err e

-- the keywords in upper case
unfoldable pub upper_keyword : List ℕ → Option Keyword
upper_keyword word =
    if bytes_eq word (codes "OPENQASM") then Some OpenQasm else (if bytes_eq word (codes "U") then Some U
    else (if bytes_eq word (codes "CX") then Some Cx else None))

-- the keyword of a word, by a table of words and a table of their keywords
abbrev pub keyword_in : List (List ℕ) → List Keyword → List ℕ → Option Keyword
keyword_in [] keywords word = None
keyword_in (text ∷ texts) [] word = None
keyword_in (text ∷ texts) (keyword ∷ keywords) word =
    if bytes_eq word text then Some keyword else keyword_in texts keywords word

-- the keywords that begin a statement
unfoldable pub statement_keyword : List ℕ → Option Keyword
statement_keyword =
    keyword_in statement_words (Include ∷ Qreg ∷ Creg ∷ Gate ∷ Opaque ∷ Measure ∷ Reset ∷ Barrier ∷ If ∷ [])

-- the keywords of angles
unfoldable pub angle_keyword : List ℕ → Option Keyword
angle_keyword = keyword_in angle_words (Pi ∷ Sin ∷ Cos ∷ Tan ∷ Exp ∷ Ln ∷ Sqrt ∷ [])

-- the keyword that a word is
unfoldable pub keyword_of : List ℕ → Option Keyword
keyword_of word = option_or (upper_keyword word) (option_or (statement_keyword word) (angle_keyword word))

-- whether a word begins with an upper-case letter
abbrev pub is_upper : List ℕ → Bool
is_upper [] = false
is_upper (b ∷ word) = is_ascii_uppercase b

-- a text of at most 64 bytes
abbrev pub short_token : ℕ → Token → List ℕ → Result (Option Token) TokenFault
short_token at token text = if nat_le (length text) 64 then Ok (Some token) else Err (LongWord at)

-- a keyword, or an identifier, which begins with a lower-case letter
unfoldable pub word_token : ℕ → Option Keyword → List ℕ → Result (Option Token) TokenFault
word_token at (Some keyword) word = Ok (Some (tokens.Keyword keyword))
word_token at None word = if is_upper word then Err (Lex at) else short_token at (tokens.Identifier word) word

-- the token that a piece of that shape and text is, none for a gap; or its fault
unfoldable pub token_of : ℕ → Shape → List ℕ → Result (Option Token) TokenFault
token_of at shapes.Gap text = Ok None
token_of at shapes.Word text = word_token at (keyword_of text) text
token_of at shapes.Integer text =
    if nat_lt (digits_value 10 text) (2 ^ 64) then Ok (Some (tokens.Integer (digits_value 10 text)))
    else Err (BigNumber at)
token_of at shapes.Real text = short_token at (tokens.Real text) text
token_of at shapes.Text text = short_token at (tokens.Text (take (length text - 2) (drop 1 text))) text
token_of at (shapes.Sign sign) text = Ok (Some (tokens.Sign sign))

-- How many parentheses are open after a sign, at most 100. A closing one closes one where one is open.
unfoldable pub open_after_sign : ℕ → ℕ → Sign → Result ℕ TokenFault
open_after_sign at depth LeftParenthesis = if nat_lt depth 100 then Ok (depth + 1) else Err (Deep at)
open_after_sign at depth RightParenthesis = Ok (depth - 1)
open_after_sign at depth Semicolon = Ok 0
open_after_sign at depth LeftBrace = Ok 0
open_after_sign at depth RightBrace = Ok 0
open_after_sign at depth sign = Ok depth

-- and after any piece
unfoldable pub open_after : ℕ → ℕ → Shape → Result ℕ TokenFault
open_after at depth (shapes.Sign sign) = open_after_sign at depth sign
open_after at depth shape = Ok depth

-- tokens after this first one, if there is one
abbrev pub with_front : ℕ → Option Token → List PlacedToken → List PlacedToken
with_front at None placed = placed
with_front at (Some token) placed = record { at = at; token = token } ∷ placed

-- The tokens of a text whose first byte has that place, where so many parentheses are open; or the first fault.
-- The text's first bytes, so many as `inside` says, belong to the piece before.
unfoldable pub tokens_from : ℕ → ℕ → ℕ → List ℕ → Result (List PlacedToken) TokenFault
tokens_from at depth inside [] = Ok []
tokens_from at depth (suc inside) (b ∷ text) = tokens_from (at + 1) depth inside text
tokens_from at depth zero (b ∷ text) = do
  piece ← ok_or (piece_of (b ∷ text)) (Lex at)
  token ← token_of at piece.shape (take piece.length (b ∷ text))
  deeper ← open_after at depth piece.shape
  placed ← tokens_from (at + 1) deeper (piece.length - 1) text
  Ok (with_front at token placed)

-- the tokens of a text with their places, or the leftmost fault
abbrev pub tokens_of : List ℕ → Result (List PlacedToken) TokenFault
tokens_of text = tokens_from 0 0 0 text
