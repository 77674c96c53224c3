-- The form of a name in a trap file.
use Rattle.std.specs.Prelude.{ℕ, ◌==◌, nat_le, Bool, false, ◌&&◌, ◌||◌, List, [], ◌∷◌, length}
use Rattle.std.specs.List.{list_all}
use Rattle.std.specs.Char.{is_ascii_digit, is_ascii_alphabetic}

-- a letter, a digit or `_`
abbrev pub is_word : ℕ → Bool
is_word byte = (is_ascii_alphabetic byte || is_ascii_digit byte) || byte == 95

abbrev pub begins_with_letter : List ℕ → Bool
begins_with_letter [] = false
begins_with_letter (byte ∷ bytes) = is_ascii_alphabetic byte

-- 1 to 16 letters, digits and `_`, and a letter first
abbrev pub is_name : List ℕ → Bool
is_name bytes = (begins_with_letter bytes && nat_le (length bytes) 16) && list_all is_word bytes
