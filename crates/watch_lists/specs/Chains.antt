-- Lists of links, and how they change.
use Rattle.std.specs.Prelude.{◌≡◌, ℕ, zero, suc, ◌+◌, ◌<◌, ◌⊎◌, ◌==◌, if◌then◌else◌, List, [], ◌∷◌, ◌++◌, map, length, Option, Some, None, slice_index_or}

-- the link is in the list
abbrev pub IsIn : ℕ → List ℕ → Type 0
IsIn link [] = ⊥
IsIn link (first ∷ rest) = (first ≡ link) ⊎ IsIn link rest

-- the list with that link taken out
abbrev pub without : ℕ → List ℕ → List ℕ
without link [] = []
without link (first ∷ rest) = if first == link then without link rest else first ∷ without link rest

-- the link comes right after the one before it, or first where none is before it
abbrev pub Follows : Option ℕ → ℕ → List ℕ → Type 0
Follows None link list = (back : List ℕ) × (list ≡ link ∷ back)
Follows (Some before) link list = (front : List ℕ) × ((back : List ℕ) × (list ≡ front ++ before ∷ link ∷ back))

-- ---- working notions of private functions: each list has a first link, and each link its follower

-- lists of links, and how many links there are, also such as are in no list
pub record Chained : Type 0 where
  pub lists : List (List ℕ)
  pub links : ℕ

-- how many links are in the lists
abbrev pub count_in : List (List ℕ) → ℕ
count_in [] = 0
count_in (list ∷ lists) = length list + count_in lists

-- from the start on the links follow one another in this order, and the last has no follower
abbrev pub Leads : List (Option ℕ) → Option ℕ → List ℕ → Type 0
Leads followers start [] = start ≡ None
Leads followers start (link ∷ rest) =
    (start ≡ Some link) × (link < length followers) × Leads followers (slice_index_or followers link None) rest

-- heads and followers are the chains of these lists, and no link is in two of them
pub record AreChains (heads followers : List (Option ℕ)) (lists : List (List ℕ)) : Type 0 where
  pub rows : length lists ≡ length heads
  pub leads : (at : ℕ) → Leads followers (slice_index_or heads at None) (slice_index_or lists at [])
  pub apart : (at other link : ℕ) →
      IsIn link (slice_index_or lists at []) → IsIn link (slice_index_or lists other []) → at ≡ other

-- the links that follow one another from the start on, at most so many
abbrev pub follow : List (Option ℕ) → ℕ → Option ℕ → List ℕ
follow followers zero start = []
follow followers (suc most) None = []
follow followers (suc most) (Some link) = link ∷ follow followers most (slice_index_or followers link None)

-- the lists whose chains these are
abbrev pub lists_in : List (Option ℕ) → List (Option ℕ) → List (List ℕ)
lists_in heads followers = map (follow followers (length followers)) heads

-- no link is in two places, and each is one of the links
pub record OccurOnce (chains : Chained) : Type 0 where
  pub below : (link at : ℕ) → IsIn link (slice_index_or chains.lists at []) → link < chains.links
  pub apart : (link at other : ℕ) →
      IsIn link (slice_index_or chains.lists at []) → IsIn link (slice_index_or chains.lists other [])
      → at ≡ other
  pub once : (link at : ℕ) (front back start rest : List ℕ) →
      slice_index_or chains.lists at [] ≡ front ++ link ∷ back
      → slice_index_or chains.lists at [] ≡ start ++ link ∷ rest
      → (front ≡ start) × (back ≡ rest)
