-- Working notions of private functions: links, the literals that they watch, and their lists.
use Rattle.std.specs.Prelude.{◌≡◌, ℕ, ◌+◌, ◌-◌, ◌*◌, ◌%◌, ◌==◌, if◌then◌else◌, List, Some, length, slice_get}
use Rattle.sat_base.specs.Literal.{Literal}
use Rattle.watch_lists.specs.Watched.{Watched, OccursBetween}

-- the lists of links, and for each link its literal
pub record Linked : Type 0 where
  pub watched : Watched
  pub literals : List Literal

-- each link is in the list of its literal alone
pub record IsTied (watched : Watched) (literals : List Literal) : Type 0 where
  pub count : length literals ≡ 2 * watched.clauses
  pub own : (link : ℕ) (literal : Literal) (front back : List ℕ) →
      OccursBetween watched link literal front back → slice_get literals link ≡ Some literal

-- the other link of the same clause
abbrev pub other_link : ℕ → ℕ
other_link link = if (link % 2 == 0) then link + 1 else link - 1
