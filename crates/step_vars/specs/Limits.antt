-- The clauses of at-most lists by encoding, and how many helper variables they have.
use Rattle.std.specs.Prelude.{ℕ, ◌==◌, ◌≤◌, nat_lt, nat_le, if◌then◌else◌, List, [], length}
use Rattle.sat_base.specs.Literal.{Literal}
use Rattle.at_most.specs.Pairwise.{pairwise}
use Rattle.at_most.specs.Sequential.{sequential, sequential_count}
use Rattle.at_most.specs.Totalizer.{totalizer, totalizer_count}
use Rattle.step_vars.specs.declared.encoding.Encoding.{Encoding}
use Rattle.step_vars.specs.declared.encoding.Encoding.TheVariants as encodings

-- the clauses that allow at most k of the literals to be true: with counters, pairs for up to 4 literals, else
-- the sequential counter for a limit of 1 and the totalizer for larger limits
abbrev pub clauses_by : Encoding → List Literal → ℕ → ℕ → List (List Literal)
clauses_by encodings.Pairwise literals k next = pairwise literals k
clauses_by encodings.Counter literals k next =
    if nat_le (length literals) 4 then pairwise literals k else
    if k == 1 then sequential literals k next else totalizer literals k next

abbrev pub count_by : Encoding → ℕ → ℕ → ℕ
count_by encodings.Pairwise n k = 0
count_by encodings.Counter n k =
    if nat_le n 4 then 0 else if k == 1 then sequential_count n k else totalizer_count n k

-- a list is emitted only where its limit is below its length
unfoldable pub limited : Encoding → List Literal → ℕ → ℕ → List (List Literal)
limited encoding literals k next =
    if nat_lt k (length literals) then clauses_by encoding literals k next else []

-- how many new variables the clauses of n literals and limit k have
unfoldable pub fresh_for : Encoding → ℕ → ℕ → ℕ
fresh_for encoding n k = if nat_lt k n then count_by encoding n k else 0

-- a limit of at least 1, and not too many literals
pub record IsWithin (n k : ℕ) : Type 0 where
  pub some : 1 ≤ k
  pub few : n ≤ 32768
