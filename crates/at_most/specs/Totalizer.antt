-- The totalizer. The literals are halved down to single ones; each list has outputs, of which number i,
-- counted from 1, says that at least i of its literals are true.
use Rattle.std.specs.Prelude.{ℕ, zero, suc, ◌+◌, ◌-◌, ◌/◌, ◌&&◌, if◌then◌else◌, nat_le, min, List, [], ◌∷◌, ◌++◌, length, map, take, drop}
use Rattle.sat_base.specs.Literal.{Literal, positive_of, negated}

-- what was built for a list: its outputs, the clauses so far, and the next free variable
pub record Built : Type 0 where
  pub outputs : List Literal
  pub clauses : List (List Literal)
  pub next : ℕ

-- so many variables from var on
abbrev pub variables : ℕ → ℕ → List Literal
variables var zero = []
variables var (suc count) = positive_of var ∷ variables (var + 1) count

-- what a clause says of an output, by its number from 0 on: nothing for 0, and then each output negated
abbrev pub premises : List Literal → List (List Literal)
premises outputs = [] ∷ map (λ output. negated output ∷ []) outputs

-- the clause of two premises whose numbers add up to sum, where that is from 1 to most: both, and output number sum
abbrev pub sum_of : List Literal → List Literal → ℕ → ℕ → ℕ → List (List Literal)
sum_of left right sum first most =
    if nat_le 1 sum && nat_le sum most then (left ++ right ++ positive_of (first + (sum - 1)) ∷ []) ∷ [] else []

-- one premise of the left list with each of the right list in order, from number sum on
abbrev pub sums_of : List Literal → ℕ → List (List Literal) → ℕ → ℕ → List (List Literal)
sums_of left sum [] first most = []
sums_of left sum (right ∷ rest) first most =
    sum_of left right sum first most ++ sums_of left (sum + 1) rest first most

-- the premises of the left list in order, from number sum on, each with all of the right list
abbrev pub merged : List (List Literal) → ℕ → List (List Literal) → ℕ → ℕ → List (List Literal)
merged [] sum rights first most = []
merged (left ∷ rest) sum rights first most =
    sums_of left sum rights first most ++ merged rest (sum + 1) rights first most

-- the clauses that add up two lists of outputs, with so many new outputs from first on
abbrev pub added_up : List Literal → List Literal → ℕ → ℕ → List (List Literal)
added_up lefts rights first most = merged (premises lefts) 0 (premises rights) first most

-- two built lists put together, with so many new outputs
abbrev pub joined : Built → Built → ℕ → Built
joined left right most = record {
  outputs = variables right.next most;
  clauses = left.clauses ++ right.clauses ++ added_up left.outputs right.outputs right.next most;
  next = right.next + most;
}

-- what is built for a list, by at most so many halvings; as many as it has literals are enough
abbrev pub built : ℕ → ℕ → List Literal → ℕ → Built
built zero k literals next = record { outputs = literals; clauses = []; next = next }
built (suc halvings) k literals next =
    if nat_le (length literals) 1 then record { outputs = literals; clauses = []; next = next } else
    (let half = length literals / 2 in
    let left = built halvings k (take half literals) next in
    let right = built halvings k (drop half literals) left.next in
    joined left right (min (length literals) (k + 1)))

-- what is built for the whole list
abbrev pub tree_of : ℕ → List Literal → ℕ → Built
tree_of k literals next = built (length literals) k literals next

-- the clauses of the whole list, and that its output number k + 1, the last one, is false
abbrev pub totalizer : List Literal → ℕ → ℕ → List (List Literal)
totalizer literals k next =
    let whole = tree_of k literals next in
    whole.clauses ++ (map negated (drop k whole.outputs)) ∷ []

-- how many outputs are made for a list of so many literals, by at most so many halvings
abbrev pub output_count : ℕ → ℕ → ℕ → ℕ
output_count zero n k = 0
output_count (suc halvings) n k =
    if nat_le n 1 then 0 else
    (output_count halvings (n / 2) k + output_count halvings (n - n / 2) k + min n (k + 1))

-- how many new variables there are for n literals
abbrev pub totalizer_count : ℕ → ℕ → ℕ
totalizer_count n k = output_count n n k
