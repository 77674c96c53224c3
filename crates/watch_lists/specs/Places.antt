-- Working notions of private functions: how a list of words lies in the places of a block.
use Rattle.std.specs.Prelude.{◌≡◌, ℕ, ◌-◌, ◌≤◌, List, [], ◌∷◌, map, length, take, Option, Some, None}

-- a list of words that can grow by so many without new memory
pub record Row : Type 0 where
  pub words : List ℕ
  pub spare : ℕ

-- the places of a block, none where there is no block
abbrev pub places_of : Option (List (Option ℕ)) → List (Option ℕ)
places_of None = []
places_of (Some places) = places

-- the words that are there
abbrev pub words_in : List (Option ℕ) → List ℕ
words_in [] = []
words_in (None ∷ places) = words_in places
words_in (Some word ∷ places) = word ∷ words_in places

-- the first places, so many of them, each hold a word
abbrev pub AreFilled : ℕ → List (Option ℕ) → Type 0
AreFilled count places =
    (count ≤ length places) × (take count places ≡ map Some (words_in (take count places)))

-- the words in the first places, so many of them, and how many places come after them
abbrev pub row_of : ℕ → List (Option ℕ) → Row
row_of count places = record { words = words_in (take count places); spare = length places - count }
