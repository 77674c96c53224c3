-- What a contract sees of watch lists: one list of links for each literal.
use Rattle.std.specs.Prelude.{◌≡◌, ℕ, ◌+◌, ◌-◌, ◌*◌, ◌/◌, ◌<◌, ◌≤◌, if◌then◌else◌, List, [], ◌∷◌, ◌++◌, length, replicate, Option, slice_get, slice_set, slice_index_or}
use Rattle.sat_base.specs.Literal.{Literal}
use Rattle.watch_lists.specs.Chains.{Chained, IsIn, without, count_in}

-- how many variables and clauses were added, and the lists of the literals: for each variable its own and its
-- negation's
pub record Watched : Type 0 where
  pub vars : ℕ
  pub clauses : ℕ
  pub lists : List (List ℕ)

-- the variable of the literal was added
abbrev pub IsAdded : Watched → Literal → Type 0
IsAdded watched literal = (1 ≤ literal.var) × (literal.var ≤ watched.vars)

-- where the literal's list is among the lists
abbrev pub index_of : Literal → ℕ
index_of literal = 2 * (literal.var - 1) + (if literal.positive then 0 else 1)

-- the literal's list
abbrev pub list_of : Watched → Literal → List ℕ
list_of watched literal = slice_index_or watched.lists (index_of literal) []

-- no variables and no clauses
abbrev pub no_watches : Watched
no_watches = record { vars = 0; clauses = 0; lists = [] }

-- so many more variables, whose literals have empty lists
abbrev pub with_vars : ℕ → Watched → Watched
with_vars count watched = record {
  vars = watched.vars + count;
  clauses = watched.clauses;
  lists = watched.lists ++ replicate (2 * count) [];
}

-- the literal has this list, and all else stays
abbrev pub with_list : Literal → List ℕ → Watched → Watched
with_list literal list watched = record {
  vars = watched.vars;
  clauses = watched.clauses;
  lists = slice_set watched.lists (index_of literal) list;
}

-- the link is put first in the literal's list
abbrev pub put_first : Literal → ℕ → Watched → Watched
put_first literal link watched = with_list literal (link ∷ list_of watched literal) watched

-- the link is taken out of the literal's list
abbrev pub take_out : Literal → ℕ → Watched → Watched
take_out literal link watched = with_list literal (without link (list_of watched literal)) watched

-- one more clause, whose two links are put first in the lists of the two literals
abbrev pub with_clause : Literal → Literal → Watched → Watched
with_clause a b watched =
    let clause = watched.clauses in
    let counted : Watched = record { vars = watched.vars; clauses = clause + 1; lists = watched.lists } in
    put_first b (2 * clause + 1) (put_first a (2 * clause) counted)

-- the link is in the literal's list, after those in front and before those at the back
abbrev pub OccursBetween : Watched → ℕ → Literal → List ℕ → List ℕ → Type 0
OccursBetween watched link literal front back =
    IsAdded watched literal × (list_of watched literal ≡ front ++ link ∷ back)

-- the link is in some literal's list
abbrev pub IsListed : Watched → ℕ → Type 0
IsListed watched link =
    (literal : Literal) × ((front : List ℕ) × ((back : List ℕ) × OccursBetween watched link literal front back))

-- in whichever list the link is, this is what comes after it
abbrev pub IsNext : Watched → ℕ → Option ℕ → Type 0
IsNext watched link next = (literal : Literal) (front back : List ℕ) →
    OccursBetween watched link literal front back → next ≡ slice_get back 0

-- each link of a clause is in one list, at one place, and no other link is in any
pub record EachLinkOnce (watched : Watched) : Type 0 where
  pub listed : (link : ℕ) → link < 2 * watched.clauses → IsListed watched link
  pub of_clause : (link : ℕ) (literal : Literal) (front back : List ℕ) →
      OccursBetween watched link literal front back → link < 2 * watched.clauses
  pub once : (link : ℕ) (literal other : Literal) (front back start rest : List ℕ) →
      OccursBetween watched link literal front back → OccursBetween watched link other start rest
      → (literal ≡ other) × (front ≡ start) × (back ≡ rest)

-- ---- working notions of private functions

-- what is seen of lists of links
abbrev pub watched_of : Chained → Watched
watched_of chains = record { vars = length chains.lists / 2; clauses = chains.links / 2; lists = chains.lists }

-- two lists a variable and two links a clause, and every link is in a list
pub record IsComplete (chains : Chained) : Type 0 where
  pub lists_even : length chains.lists ≡ 2 * (length chains.lists / 2)
  pub links_even : chains.links ≡ 2 * (chains.links / 2)
  pub all : (link : ℕ) → link < chains.links → (at : ℕ) × IsIn link (slice_index_or chains.lists at [])
  pub count : count_in chains.lists ≡ chains.links
