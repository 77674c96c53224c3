-- The forms of real literals. The language is OpenQASM 2.0 (arXiv:1707.03429, the appendix on its grammar), the
-- forms are this project's profile.
use Rattle.std.specs.Prelude.{◌≡◌, ℕ, ◌+◌, ◌<◌, ◌≤◌, ◌⊎◌, Bool, IsTrue, List, [], ◌∷◌, ◌++◌, length, codes}
use Rattle.std.specs.Char.{is_ascii_digit}

-- each byte passes the test
abbrev pub Each : (ℕ → Bool) → List ℕ → Type 0
Each p [] = Unit {0}
Each p (b ∷ text) = IsTrue (p b) × Each p text

-- e or E, perhaps + or -, at least one digit
pub record IsExponent (text : List ℕ) : Type 0 where
  pub letter : ℕ
  pub sign : List ℕ
  pub digits : List ℕ
  pub made : text ≡ letter ∷ (sign ++ digits)
  pub is_letter : (letter ≡ 101) ⊎ (letter ≡ 69)
  pub is_sign : (sign ≡ []) ⊎ ((sign ≡ codes "+") ⊎ (sign ≡ codes "-"))
  pub some : 0 < length digits
  pub are_digits : Each is_ascii_digit digits

-- digits, a point and digits, at least one digit on one side, then perhaps an exponent
pub record HasPoint (text : List ℕ) : Type 0 where
  pub whole : List ℕ
  pub fraction : List ℕ
  pub exponent : List ℕ
  pub made : text ≡ whole ++ 46 ∷ (fraction ++ exponent)
  pub whole_digits : Each is_ascii_digit whole
  pub fraction_digits : Each is_ascii_digit fraction
  pub some : 0 < length whole + length fraction
  pub perhaps : (exponent ≡ []) ⊎ IsExponent exponent

-- digits and an exponent
pub record HasExponent (text : List ℕ) : Type 0 where
  pub whole : List ℕ
  pub exponent : List ℕ
  pub made : text ≡ whole ++ exponent
  pub whole_digits : Each is_ascii_digit whole
  pub some : 0 < length whole
  pub is_exponent : IsExponent exponent

-- one of the two
abbrev pub IsReal : List ℕ → Type 0
IsReal text = HasPoint text ⊎ HasExponent text

-- a real of at most 64 bytes
abbrev pub IsShortReal : List ℕ → Type 0
IsShortReal text = IsReal text × (length text ≤ 64)
