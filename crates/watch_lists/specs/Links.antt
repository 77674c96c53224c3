-- Working notions of private functions: how links lie in words.
use Rattle.std.specs.Prelude.{ℕ, ◌+◌, ◌-◌, ◌*◌, ◌^◌, ◌==◌, if◌then◌else◌, List, [], ◌∷◌, Option, Some, None}

-- the link whose halves are these; the largest number marks an end
abbrev pub link_of : ℕ → ℕ → Option ℕ
link_of low high = if (low + 2 ^ 32 * high) == 2 ^ 64 - 1 then None else Some (low + 2 ^ 32 * high)

-- two words a link, its low half first
abbrev pub links_in : List ℕ → List (Option ℕ)
links_in [] = []
links_in (low ∷ []) = []
links_in (low ∷ high ∷ words) = link_of low high ∷ links_in words
