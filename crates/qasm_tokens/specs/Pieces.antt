-- What is at the front of a circuit file's text: white space, a comment or a token.
-- The language is OpenQASM 2.0 (arXiv:1707.03429, the appendix on its grammar), the forms of its tokens are this
-- project's profile.
use Rattle.std.specs.Prelude.{ℕ, ◌+◌, ◌==◌, nat_eq, nat_lt, Bool, not, ◌&&◌, ◌||◌, List, [], ◌∷◌, length, drop, codes, Option, Some, None, if◌then◌else◌}
use Rattle.std.specs.Char.{is_ascii_digit, is_ascii_alphabetic, is_ascii_alphanumeric}
use Rattle.std.specs.List.{prefix_len, starts_with}
use Rattle.std.specs.Option.{option_map}
use Rattle.qasm_tokens.specs.declared.token.Sign.{Sign}
use Rattle.qasm_tokens.specs.declared.token.Sign.TheVariants.{Semicolon, Comma, LeftParenthesis, RightParenthesis, LeftBracket, RightBracket, LeftBrace, RightBrace, Plus, Minus, Star, Slash, Caret, Arrow, Equals}
use Rattle.qasm_tokens.specs.declared.piece.Shape.{Shape}
use Rattle.qasm_tokens.specs.declared.piece.Shape.TheVariants.{Gap, Word, Integer, Real, Text}
use Rattle.qasm_tokens.specs.declared.piece.Shape.TheVariants as shapes
use Rattle.qasm_tokens.specs.declared.piece.Piece.{Piece}

-- space, tab, carriage return or line feed
abbrev pub is_space : ℕ → Bool
is_space b = ((b == 32) || (b == 9)) || ((b == 13) || (b == 10))

-- a letter, a digit or an underscore
abbrev pub is_word_byte : ℕ → Bool
is_word_byte b = is_ascii_alphanumeric b || (b == 95)

-- what a string may hold: anything but a quote and a line feed
abbrev pub is_string_byte : ℕ → Bool
is_string_byte b = not ((b == 34) || (b == 10))

-- what a comment may hold: anything but a line feed
abbrev pub is_comment_byte : ℕ → Bool
is_comment_byte b = not (b == 10)

-- whether the text begins with these bytes
abbrev pub begins : List ℕ → List ℕ → Bool
begins front text = starts_with nat_eq text front

-- how long the comment at the front is, which ends before a line feed; here and below 0 where none is there
unfoldable pub comment_len : List ℕ → ℕ
comment_len text = if begins (codes "//") text then prefix_len is_comment_byte text else 0

-- a letter, then letters, digits and underscores
unfoldable pub word_len : List ℕ → ℕ
word_len [] = 0
word_len (b ∷ text) = if is_ascii_alphabetic b then prefix_len is_word_byte (b ∷ text) else 0

-- 0, or a digit from 1 to 9 and then digits
unfoldable pub integer_len : List ℕ → ℕ
integer_len [] = 0
integer_len (b ∷ text) = if b == 48 then 1 else prefix_len is_ascii_digit (b ∷ text)

-- a plus or a minus
unfoldable pub sign_len : List ℕ → ℕ
sign_len [] = 0
sign_len (b ∷ text) = if (b == 43) || (b == 45) then 1 else 0

-- e or E, perhaps a plus or a minus, at least one digit
unfoldable pub exponent_len : List ℕ → ℕ
exponent_len [] = 0
exponent_len (b ∷ text) =
    let sign = sign_len text in
    let digits = prefix_len is_ascii_digit (drop sign text) in
    if ((b == 101) || (b == 69)) && nat_lt 0 digits then 1 + sign + digits else 0

-- a point and digits after so many digits, at least one digit on one side
unfoldable pub fraction_len : ℕ → List ℕ → ℕ
fraction_len whole [] = 0
fraction_len whole (b ∷ text) =
    let digits = prefix_len is_ascii_digit text in
    if (b == 46) && nat_lt 0 (whole + digits) then 1 + digits else 0

-- digits, a fraction and perhaps an exponent; or digits and an exponent
unfoldable pub real_len : List ℕ → ℕ
real_len text =
    let whole = prefix_len is_ascii_digit text in
    let fraction = fraction_len whole (drop whole text) in
    let exponent = exponent_len (drop (whole + fraction) text) in
    if nat_lt 0 fraction || (nat_lt 0 whole && nat_lt 0 exponent) then whole + fraction + exponent else 0

-- a quote, what a string may hold, a quote
unfoldable pub string_len : List ℕ → ℕ
string_len [] = 0
string_len (b ∷ text) =
    let inside = prefix_len is_string_byte text in
    if (b == 34) && begins (34 ∷ []) (drop inside text) then inside + 2 else 0

-- the sign that one byte is
unfoldable pub sign_of_byte : ℕ → Option Sign
sign_of_byte b =
    if b == 59 then Some Semicolon else (if b == 44 then Some Comma
    else (if b == 40 then Some LeftParenthesis else (if b == 41 then Some RightParenthesis
    else (if b == 91 then Some LeftBracket else (if b == 93 then Some RightBracket
    else (if b == 123 then Some LeftBrace else (if b == 125 then Some RightBrace
    else (if b == 43 then Some Plus else (if b == 45 then Some Minus
    else (if b == 42 then Some Star else (if b == 47 then Some Slash
    else (if b == 94 then Some Caret else None))))))))))))

-- the sign at the front
unfoldable pub sign_piece : List ℕ → Option Piece
sign_piece [] = None
sign_piece (b ∷ text) =
    if begins (codes "->") (b ∷ text) then Some (record { shape = shapes.Sign Arrow; length = 2 })
    else (if begins (codes "==") (b ∷ text) then Some (record { shape = shapes.Sign Equals; length = 2 })
    else option_map (λ sign. record { shape = shapes.Sign sign; length = 1 }) (sign_of_byte b))

-- a piece, where its length isn't 0
abbrev pub piece_of_length : Shape → ℕ → Option Piece
piece_of_length shape length = if nat_lt 0 length then Some (record { shape = shape; length = length }) else None

infixr 8 ◌or◌
abbrev pub ◌or◌ : Option Piece → Option Piece → Option Piece
None or piece = piece
(Some first) or piece = Some first

-- The piece at the front of a text. A form is before those of which it may be longer, so the piece is the longest.
unfoldable pub piece_of : List ℕ → Option Piece
piece_of text = piece_of_length Gap (prefix_len is_space text)
    or (piece_of_length Gap (comment_len text)
    or (piece_of_length Word (word_len text)
    or (piece_of_length Real (real_len text)
    or (piece_of_length Integer (integer_len text)
    or (piece_of_length Text (string_len text)
    or sign_piece text)))))
