-- What each token of a text is like.
use Rattle.std.specs.Prelude.{◌≡◌, ℕ, ◌^◌, ◌<◌, ◌≤◌, false, List, length, None}
use Rattle.std.specs.List.{AllByRecursion}
use Rattle.circuit_core.specs.Reals.{Each, IsShortReal}
use Rattle.qasm_tokens.specs.declared.token.Token.{Token}
use Rattle.qasm_tokens.specs.declared.token.Token.TheVariants as tokens
use Rattle.qasm_tokens.specs.declared.token.PlacedToken.{PlacedToken}
use Rattle.qasm_tokens.specs.Pieces.{is_string_byte}
use Rattle.qasm_tokens.specs.Tokens.{keyword_of, is_upper}
use Rattle.qasm_tokens.specs.TokenForms.{IsWord}

-- a word of at most 64 bytes that begins with a lower-case letter and is no keyword
pub record IsIdentifier (name : List ℕ) : Type 0 where
  pub word : IsWord name
  pub lower : is_upper name ≡ false
  pub other : keyword_of name ≡ None
  pub short : length name ≤ 64

-- an identifier, a number below 2^64, a real of at most 64 bytes, what is in a string of at most 64 bytes, or a
-- keyword or sign
abbrev pub IsToken : Token → Type 0
IsToken (tokens.Identifier name) = IsIdentifier name
IsToken (tokens.Integer value) = value < 2 ^ 64
IsToken (tokens.Real text) = IsShortReal text
IsToken (tokens.Text text) = Each is_string_byte text × (length text ≤ 62)
IsToken (tokens.Keyword keyword) = Unit {0}
IsToken (tokens.Sign sign) = Unit {0}

-- each of them is
abbrev pub AreTokens : List PlacedToken → Type 0
AreTokens placed = AllByRecursion (λ p. IsToken p.token) placed
