-- The names of registers and gates in a circuit file (OpenQASM 2.0, arXiv:1707.03429, where an identifier
-- begins with a lower-case letter; the length is this project's limit).
use Rattle.std.specs.Prelude.{ℕ, Bool, false, not, ◌&&◌, ◌||◌, ◌==◌, nat_le, List, [], ◌∷◌, ◌++◌, length, codes}
use Rattle.std.specs.List.{list_all, list_any}
use Rattle.std.specs.Str.{bytes_eq}

abbrev pub is_lower_case : ℕ → Bool
is_lower_case byte = nat_le 97 byte && nat_le byte 122

-- a letter, a digit or an underscore
abbrev pub is_word_byte : ℕ → Bool
is_word_byte byte =
    is_lower_case byte || (nat_le 65 byte && nat_le byte 90) || (nat_le 48 byte && nat_le byte 57) || byte == 95

-- the words that begin a statement
abbrev pub statement_words : List (List ℕ)
statement_words =
    codes "include" ∷ codes "qreg" ∷ codes "creg" ∷ codes "gate" ∷ codes "opaque" ∷ codes "measure"
    ∷ codes "reset" ∷ codes "barrier" ∷ codes "if" ∷ []

-- the words of angles: pi, and the functions
abbrev pub angle_words : List (List ℕ)
angle_words =
    codes "pi" ∷ codes "sin" ∷ codes "cos" ∷ codes "tan" ∷ codes "exp" ∷ codes "ln" ∷ codes "sqrt" ∷ []

-- the words in lower case that are no identifiers
abbrev pub reserved_words : List (List ℕ)
reserved_words = statement_words ++ angle_words

-- a lower-case letter, then letters, digits and underscores, at most 64 bytes in all, and no reserved word
abbrev pub is_identifier : List ℕ → Bool
is_identifier [] = false
is_identifier (first ∷ rest) =
    is_lower_case first && list_all is_word_byte rest && nat_le (length rest) 63
    && not (list_any (bytes_eq (first ∷ rest)) reserved_words)
