-- The sequential counter. For each literal but the last there is a row of k new variables, of which number j,
-- counted from 1, says that at least j of the literals up to this one are true.
use Rattle.std.specs.Prelude.{ℕ, zero, suc, ◌+◌, ◌-◌, ◌*◌, List, [], ◌∷◌, ◌++◌}
use Rattle.sat_base.specs.Literal.{Literal, positive_of, negative_of, negated}

-- so many variables from var on are false
abbrev pub all_false : ℕ → ℕ → List (List Literal)
all_false var zero = []
all_false var (suc count) = (negative_of var ∷ []) ∷ all_false (var + 1) count

-- the first literal, with the row that begins at row
abbrev pub first_row : Literal → ℕ → ℕ → List (List Literal)
first_row x row k = (negated x ∷ positive_of row ∷ []) ∷ all_false (row + 1) (k - 1)

-- for so many further places of the row, each with the place before it in the row before
abbrev pub carried : Literal → ℕ → ℕ → ℕ → List (List Literal)
carried x before here zero = []
carried x before here (suc count) =
    (negated x ∷ negative_of before ∷ positive_of (here + 1) ∷ [])
    ∷ (negative_of (before + 1) ∷ positive_of (here + 1) ∷ [])
    ∷ carried x (before + 1) (here + 1) count

-- not this literal, where k before it are true
abbrev pub no_more : Literal → ℕ → ℕ → List Literal
no_more x before k = negated x ∷ negative_of (before + (k - 1)) ∷ []

-- a literal between the first and the last, with the row before it and its own
abbrev pub next_row : Literal → ℕ → ℕ → ℕ → List (List Literal)
next_row x before here k =
    (negated x ∷ positive_of here ∷ [])
    ∷ (negative_of before ∷ positive_of here ∷ [])
    ∷ carried x before here (k - 1)
    ++ no_more x before k ∷ []

-- the literals after the first, with the row before them
abbrev pub later_rows : List Literal → ℕ → ℕ → List (List Literal)
later_rows [] before k = []
later_rows (x ∷ []) before k = no_more x before k ∷ []
later_rows (x ∷ y ∷ rest) before k = next_row x before (before + k) k ++ later_rows (y ∷ rest) (before + k) k

-- the clauses of all literals, with rows from next on
abbrev pub sequential : List Literal → ℕ → ℕ → List (List Literal)
sequential [] k next = []
sequential (x ∷ rest) k next = first_row x next k ++ later_rows rest next k

-- a row for each literal but the last
abbrev pub sequential_count : ℕ → ℕ → ℕ
sequential_count n k = (n - 1) * k
