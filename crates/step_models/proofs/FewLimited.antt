-- How many clauses a list has of which at most so many items may hold.
use Rattle.std.proofs.Common.{◌≡◌, ℕ, zero, suc, ◌+◌, ◌-◌, ◌*◌, ◌^◌, ◌<◌, ◌≤◌, cond, List, [], ◌∷◌, ◌++◌, length, map, min, arith, inl, inr, sym, ap, ◌∙◌, drop, length-append}
use Rattle.std.specs.Prelude.{nat_le, nat_lt, ◌==◌, ◌&&◌}
use Rattle.std.proofs.lemmas.Bool.{cases_lt, cond_both, le-ltb}
use Rattle.std.proofs.lemmas.List.{length-map}
use Rattle.std.proofs.Math.Nat.{mul-le-mul, mul-le-mul_left, mul-le-mul_right, mul-add}
use Rattle.sat_base.specs.Literal.{Literal, positive_of, negated}
use Rattle.at_most.specs.Pairwise.{choices, pairwise}
use Rattle.at_most.specs.Sequential.{all_false, first_row, carried, no_more, next_row, later_rows, sequential}
use Rattle.at_most.specs.Totalizer.{premises, sum_of, sums_of, merged, added_up, joined, built, tree_of, totalizer}
use Rattle.at_most.proofs.Sums.{length-variables}
use Rattle.at_most.proofs.Tree.{left_of, right_of, length-left_of, length-right_of, built_one, built_more, left_built, right_built}
use Rattle.step_vars.specs.declared.encoding.Encoding.{Encoding}
use Rattle.step_vars.specs.declared.encoding.Encoding.TheVariants as encodings
use Rattle.step_vars.specs.Limits.{clauses_by, limited}

-- ---- choices

power_some : (n : ℕ) → 1 ≤ 2 ^ n
power_some zero = omega arith
power_some (suc n) = omega (arith, power_some n)

twice : (n m : ℕ) → m ≤ 2 ^ n + 2 ^ n → m ≤ 2 ^ suc n
twice n m h = omega (arith, h)

-- choices of any size
few_choices : {X : Type 0} (size : ℕ) (xs : List X) → length (choices size xs) ≤ 2 ^ length xs
few_choices zero xs = power_some (length xs)
few_choices (suc size) [] = omega arith
few_choices (suc size) (x ∷ xs) =
    twice (length xs) (length (choices (suc size) (x ∷ xs)))
    (omega (
      arith,
      length-append (map (λ choice. x ∷ choice) (choices size xs)) (choices (suc size) xs),
      length-map (choices size xs) (λ choice. x ∷ choice),
      few_choices size xs,
      few_choices (suc size) xs,
    ))

few_ones : {X : Type 0} (xs : List X) → length (choices 1 xs) ≤ length xs
few_ones [] = omega arith
few_ones (x ∷ xs) = omega (arith, few_ones xs)

few_twos : {X : Type 0} (m : ℕ) (xs : List X) → length xs ≤ m → length (choices 2 xs) ≤ length xs * m
few_twos m [] h = omega arith
few_twos m (x ∷ xs) h =
    omega (
      arith,
      length-append (map (λ choice. x ∷ choice) (choices 1 xs)) (choices 2 xs),
      length-map (choices 1 xs) (λ choice. x ∷ choice),
      few_ones xs,
      few_twos m xs (omega arith),
    )

-- ---- the sequential counter

few_false : (var count : ℕ) → length (all_false var count) ≡ count
few_false var zero = omega arith
few_false var (suc count) = omega (arith, few_false (var + 1) count)

few_carried : (x : Literal) (before here count : ℕ) → length (carried x before here count) ≡ 2 * count
few_carried x before here zero = omega arith
few_carried x before here (suc count) = omega (arith, few_carried x (before + 1) (here + 1) count)

few_next : (x : Literal) (before here k : ℕ) → length (next_row x before here k) ≤ 2 * k + 3
few_next x before here k =
    omega (
      arith,
      length-append (carried x before here (k - 1)) (no_more x before k ∷ []),
      few_carried x before here (k - 1),
    )

-- where each row has at most so many clauses
few_later : (xs : List Literal) (before k m : ℕ) → 2 * k + 3 ≤ m → length (later_rows xs before k) ≤ length xs * m
few_later [] before k m row = omega arith
few_later (x ∷ []) before k m row = omega (arith, row)
few_later (x ∷ y ∷ rest) before k m row =
    omega (
      arith,
      length-append (next_row x before (before + k) k) (later_rows (y ∷ rest) (before + k) k),
      few_next x before (before + k) k,
      few_later (y ∷ rest) (before + k) k m row,
      row,
    )

few_sequential : (xs : List Literal) (k next m : ℕ) → 2 * k + 3 ≤ m → length (sequential xs k next) ≤ length xs * m
few_sequential [] k next m row = omega arith
few_sequential (x ∷ rest) k next m row =
    omega (
      arith,
      length-append (first_row x next k) (later_rows rest next k),
      few_false (next + 1) (k - 1),
      few_later rest next k m row,
      row,
    )

-- ---- the totalizer

one_sum : (left right : List Literal) (sum first most : ℕ) → length (sum_of left right sum first most) ≤ 1
one_sum left right sum first most =
    cond_both (nat_le 1 sum && nat_le sum most) ((left ++ right ++ positive_of (first + (sum - 1)) ∷ []) ∷ []) []
    (λ clauses. length clauses ≤ 1) (λ _. omega arith) (λ _. omega arith)

few_sums : (left : List Literal) (sum : ℕ) (rights : List (List Literal)) (first most : ℕ)
    → length (sums_of left sum rights first most) ≤ length rights
few_sums left sum [] first most = omega arith
few_sums left sum (right ∷ rest) first most =
    omega (
      arith,
      length-append (sum_of left right sum first most) (sums_of left (sum + 1) rest first most),
      one_sum left right sum first most,
      few_sums left (sum + 1) rest first most,
    )

few_merged : (lefts : List (List Literal)) (sum : ℕ) (rights : List (List Literal)) (first most : ℕ)
    → length (merged lefts sum rights first most) ≤ length lefts * length rights
few_merged [] sum rights first most = omega arith
few_merged (left ∷ rest) sum rights first most =
    omega (
      arith,
      length-append (sums_of left sum rights first most) (merged rest (sum + 1) rights first most),
      few_sums left sum rights first most,
      few_merged rest (sum + 1) rights first most,
    )

few_outputs : (halvings k : ℕ) (literals : List Literal) (next : ℕ)
    → length (built halvings k literals next).outputs ≤ length literals
few_outputs zero k literals next = omega arith
few_outputs (suc halvings) k literals next =
    elim (cases_lt 1 (length literals)) [
      | inl long ↦
          rw (built_more halvings k literals next long)
          (omega (
            arith,
            length-variables (right_built halvings k literals next).next (min (length literals) (k + 1)),
          ))
      | inr short ↦ rw (built_one halvings k literals next short) (omega arith)
    ]

few_added : (lefts rights : List Literal) (first most m : ℕ) → length lefts ≤ m → length rights ≤ m
    → length (added_up lefts rights first most) ≤ suc m * suc m
few_added lefts rights first most m left right =
    let l : length (premises lefts) ≤ suc m = omega (arith, length-map lefts (λ output. negated output ∷ [])) in
    let r : length (premises rights) ≤ suc m = omega (arith, length-map rights (λ output. negated output ∷ [])) in
    let square : length (premises lefts) * length (premises rights) ≤ suc m * suc m = mul-le-mul l r in
    omega (arith, few_merged (premises lefts) 0 (premises rights) first most, square)

split_product : (h a b n : ℕ) → a + b ≡ n → h * a + h * b ≡ h * n
split_product h a b n e = sym (mul-add h a b) ∙ ap (λ m. h * m) e

-- where each joining has at most so many clauses: there is one less of them than literals
few_built : (halvings k m size : ℕ) (literals : List Literal) (next : ℕ) → suc m * suc m ≤ size
    → 1 ≤ length literals → length literals ≤ m
    → length (built halvings k literals next).clauses + size ≤ size * length literals
few_built zero k m size literals next large some few =
    let one : size * 1 ≤ size * length literals = mul-le-mul_left size some in omega (arith, one)
few_built (suc halvings) k m size literals next large some few =
    let one : size * 1 ≤ size * length literals = mul-le-mul_left size some in
    elim (cases_lt 1 (length literals)) [
      | inl long ↦
          let left = left_built halvings k literals next in
          let right = right_built halvings k literals next in
          let a = length (left_of literals) in
          let b = length (right_of literals) in
          let in_left = length-left_of literals in
          let in_right = length-right_of literals in
          let split = split_product size a b (length literals) (omega (arith, in_left, in_right)) in
          let small_left : a ≤ m = omega (arith, in_left) in
          let small_right : b ≤ m = omega (arith, in_right) in
          let by_left = few_built halvings k m size (left_of literals) next large (omega (arith, in_left)) small_left in
          let by_right = few_built halvings k m size (right_of literals) left.next large (omega (arith, in_right)) small_right in
          let added = few_added left.outputs right.outputs right.next (min (length literals) (k + 1)) m
          (omega (arith, few_outputs halvings k (left_of literals) next, small_left))
          (omega (arith, few_outputs halvings k (right_of literals) left.next, small_right)) in
          let most = min (length literals) (k + 1) in
          let new = added_up left.outputs right.outputs right.next most in
          let sums : length (joined left right most).clauses ≡ length (left.clauses ++ right.clauses) + length new =
          length-append (left.clauses ++ right.clauses) new in
          rw (built_more halvings k literals next long)
          (omega (arith, sums, length-append left.clauses right.clauses, by_left, by_right, added, large, split))
      | inr short ↦ rw (built_one halvings k literals next short) (omega (arith, one))
    ]

few_totalizer : (literals : List Literal) (k next : ℕ) → 1 ≤ length literals → length literals ≤ 16
    → length (totalizer literals k next) ≤ 2 ^ 16
few_totalizer literals k next some few =
    let whole = tree_of k literals next in
    omega (
      arith,
      length-append whole.clauses ((map negated (drop k whole.outputs)) ∷ []),
      few_built (length literals) k 16 289 literals next (omega arith) some few,
    )

-- ---- a list

power_few : (n k : ℕ) → n ≤ k → 2 ^ n ≤ 2 ^ k
power_few zero k h = power_some k
power_few (suc n) zero h = absurd (omega arith)
power_few (suc n) (suc k) h = omega (arith, power_few n k (omega arith))

few_pairwise : (literals : List Literal) (k : ℕ) → length literals ≤ 16 → length (pairwise literals k) ≤ 2 ^ 16
few_pairwise literals k few =
    omega (
      arith,
      few_choices (suc k) (map negated literals),
      power_few (length (map negated literals)) 16 (omega (arith, length-map literals negated)),
    )

few_pairs : (literals : List Literal) (m : ℕ) → length literals ≤ m → length (pairwise literals 1) ≤ m * m
few_pairs literals m few =
    let n : length (map negated literals) ≤ m = omega (arith, length-map literals negated) in
    omega (arith, few_twos m (map negated literals) n, mul-le-mul_right m n)

abbrev counted_by : List Literal → ℕ → ℕ → List (List Literal)
counted_by literals k next =
    cond (nat_le (length literals) 4) (pairwise literals k)
    (cond (k == 1) (sequential literals k next) (totalizer literals k next))

few_counted : (literals : List Literal) (k next : ℕ) → k < length literals → length literals ≤ 16
    → length (counted_by literals k next) ≤ 2 ^ 16
few_counted literals k next below few =
    cond_both (nat_le (length literals) 4) (pairwise literals k)
    (cond (k == 1) (sequential literals k next) (totalizer literals k next)) (λ clauses. length clauses ≤ 2 ^ 16)
    (λ _. few_pairwise literals k few)
    (λ _. cond_both (k == 1) (sequential literals k next) (totalizer literals k next)
    (λ clauses. length clauses ≤ 2 ^ 16)
    (λ _. omega (arith, few_sequential literals k next 35 (omega arith)))
    (λ _. few_totalizer literals k next (omega arith) few))

few_by : (encoding : Encoding) (literals : List Literal) (k next : ℕ) → k < length literals
    → length literals ≤ 16
    → length (clauses_by encoding literals k next) ≤ 2 ^ 16
few_by encodings.Pairwise literals k next below few = few_pairwise literals k few
few_by encodings.Counter literals k next below few = few_counted literals k next below few

-- at most 16 literals, with any limit
pub few_limited : (encoding : Encoding) (literals : List Literal) (k next : ℕ) → length literals ≤ 16
    → length (limited encoding literals k next) ≤ 2 ^ 16
unfolding limited
few_limited encoding literals k next few =
    elim (cases_lt k (length literals)) [
      | inl below ↦
          cond_both (nat_lt k (length literals)) (clauses_by encoding literals k next) []
          (λ clauses. length clauses ≤ 2 ^ 16)
          (λ _. few_by encoding literals k next below few) (λ _. omega arith)
      | inr past ↦ rw (le-ltb k (length literals) past) (omega arith)
    ]

few_by_one : (encoding : Encoding) (literals : List Literal) (next m : ℕ) → length literals ≤ m
    → length (clauses_by encoding literals 1 next) ≤ m * m + m * 5
few_by_one encodings.Pairwise literals next m few = omega (arith, few_pairs literals m few)
few_by_one encodings.Counter literals next m few =
    let rows : length literals * 5 ≤ m * 5 = mul-le-mul_right 5 few in
    cond_both (nat_le (length literals) 4) (pairwise literals 1) (sequential literals 1 next)
    (λ clauses. length clauses ≤ m * m + m * 5)
    (λ _. omega (arith, few_pairs literals m few))
    (λ _. omega (arith, few_sequential literals 1 next 5 (omega arith), rows))

-- a limit of 1
pub few_of_one : (encoding : Encoding) (literals : List Literal) (next m : ℕ) → length literals ≤ m
    → length (limited encoding literals 1 next) ≤ m * m + m * 5
unfolding limited
few_of_one encoding literals next m few =
    cond_both (nat_lt 1 (length literals)) (clauses_by encoding literals 1 next) []
    (λ clauses. length clauses ≤ m * m + m * 5)
    (λ _. few_by_one encoding literals next m few) (λ _. omega arith)
