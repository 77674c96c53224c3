-- The forms of white space, comments and tokens, and what the longest match is.
-- The language is OpenQASM 2.0 (arXiv:1707.03429, the appendix on its grammar), the forms are this project's profile.
use Rattle.std.specs.Prelude.{◌≡◌, ℕ, ◌<◌, ◌≤◌, ◌⊎◌, IsTrue, List, [], ◌∷◌, ◌++◌, length, take, codes}
use Rattle.std.specs.Char.{is_ascii_digit, is_ascii_alphabetic}
use Rattle.std.specs.Int.{IsInRange}
use Rattle.circuit_core.specs.Reals.{Each, IsReal}
use Rattle.qasm_tokens.specs.declared.token.Sign.{Sign}
use Rattle.qasm_tokens.specs.declared.token.Sign.TheVariants.{Semicolon, Comma, LeftParenthesis, RightParenthesis, LeftBracket, RightBracket, LeftBrace, RightBrace, Plus, Minus, Star, Slash, Caret, Arrow, Equals}
use Rattle.qasm_tokens.specs.declared.piece.Shape.{Shape}
use Rattle.qasm_tokens.specs.declared.piece.Shape.TheVariants as shapes
use Rattle.qasm_tokens.specs.declared.piece.Piece.{Piece}
use Rattle.qasm_tokens.specs.Pieces.{is_space, is_word_byte, is_string_byte, is_comment_byte, begins}

-- white space of at least one byte
abbrev pub IsSpace : List ℕ → Type 0
IsSpace text = (0 < length text) × Each is_space text

-- two slashes, and no line feed
abbrev pub IsComment : List ℕ → Type 0
IsComment text = IsTrue (begins (codes "//") text) × Each is_comment_byte text

-- a letter, then letters, digits and underscores
abbrev pub IsWord : List ℕ → Type 0
IsWord [] = ⊥
IsWord (b ∷ text) = IsTrue (is_ascii_alphabetic b) × Each is_word_byte text

-- 0, or 1 to 9 and then digits
abbrev pub IsInteger : List ℕ → Type 0
IsInteger [] = ⊥
IsInteger (b ∷ text) = ((b ≡ 48) × (text ≡ [])) ⊎ (IsInRange 49 57 b × Each is_ascii_digit text)

-- a quote, bytes other than a quote and a line feed, a quote
abbrev pub IsString : List ℕ → Type 0
IsString text = (inside : List ℕ) × (text ≡ 34 ∷ (inside ++ 34 ∷ [])) × Each is_string_byte inside

-- how a sign is written
abbrev pub sign_text : Sign → List ℕ
sign_text Semicolon = codes ";"
sign_text Comma = codes ","
sign_text LeftParenthesis = codes "("
sign_text RightParenthesis = codes ")"
sign_text LeftBracket = codes "["
sign_text RightBracket = codes "]"
sign_text LeftBrace = codes "{"
sign_text RightBrace = codes "}"
sign_text Plus = codes "+"
sign_text Minus = codes "-"
sign_text Star = codes "*"
sign_text Slash = codes "/"
sign_text Caret = codes "^"
sign_text Arrow = codes "->"
sign_text Equals = codes "=="

-- the text is of the form that the shape names
abbrev pub HasForm : Shape → List ℕ → Type 0
HasForm shapes.Gap text = IsSpace text ⊎ IsComment text
HasForm shapes.Word text = IsWord text
HasForm shapes.Integer text = IsInteger text
HasForm shapes.Real text = IsReal text
HasForm shapes.Text text = IsString text
HasForm (shapes.Sign sign) text = text ≡ sign_text sign

-- the piece at the front of a text is of its form, and no longer front of the text is of any
pub record IsLongest (text : List ℕ) (piece : Piece) : Type 0 where
  pub within : piece.length ≤ length text
  pub form : HasForm piece.shape (take piece.length text)
  pub longest : (front rest : List ℕ) (shape : Shape) → text ≡ front ++ rest → HasForm shape front
      → length front ≤ piece.length

-- no front of the text is of any form
abbrev pub HasNoForm : List ℕ → Type 0
HasNoForm text = (front rest : List ℕ) (shape : Shape) → text ≡ front ++ rest → HasForm shape front → ⊥
