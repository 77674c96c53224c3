-- Working notions of private functions: lists that are kept as one long list and the ends of its parts.
use Rattle.std.specs.Prelude.{◌≡◌, ℕ, ◌-◌, ◌≤◌, List, [], ◌∷◌, take, drop}

-- the parts, the first of which begins at start
abbrev pub pieces : {X : Type 0} → ℕ → List ℕ → List X → List (List X)
pieces start [] xs = []
pieces start (end ∷ ends) xs = take (end - start) (drop start xs) ∷ pieces end ends xs

-- the ends never fall, and the last one is the whole length
abbrev pub AreEnds : ℕ → List ℕ → ℕ → Type 0
AreEnds start [] whole = start ≡ whole
AreEnds start (end ∷ ends) whole = (start ≤ end) × AreEnds end ends whole
