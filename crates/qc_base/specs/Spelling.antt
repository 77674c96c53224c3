-- Words and numbers before a sign.
use Rattle.std.specs.Prelude.{◌≢◌, ℕ, ◌<◌, ◌⊎◌, List, All}

-- a byte that is no digit
abbrev pub IsSign : ℕ → Type 0
IsSign sign = (sign < 48) ⊎ (57 < sign)

-- the sign isn't in the word
abbrev pub IsFree : ℕ → List ℕ → Type 0
IsFree sign word = All (λ byte. byte ≢ sign) word
