-- Where words end.
use Rattle.std.specs.Prelude.{◌≡◌, ℕ, List, [], ◌∷◌}

-- the bytes are none, or the sign is first
abbrev pub EndsWord : ℕ → List ℕ → Type 0
EndsWord sign [] = Unit {0}
EndsWord sign (byte ∷ bytes) = byte ≡ sign
