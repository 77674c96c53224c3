-- The clauses of pairs, and of larger choices.
use Rattle.std.specs.Prelude.{ℕ, zero, suc, List, [], ◌∷◌, ◌++◌, map}
use Rattle.sat_base.specs.Literal.{Literal, negated}

-- each ascending choice of so many positions of a list, in lexicographic order, as the list of its members there
abbrev pub choices : {X : Type 0} → ℕ → List X → List (List X)
choices zero xs = [] ∷ []
choices (suc size) [] = []
choices (suc size) (x ∷ xs) = map (λ choice. x ∷ choice) (choices size xs) ++ choices (suc size) xs

-- of each choice of k + 1 literals one is false
abbrev pub pairwise : List Literal → ℕ → List (List Literal)
pairwise literals k = choices (suc k) (map negated literals)
