-- The laws of the sequential counter.
use Rattle.std.proofs.Common.{◌≡◌, ℕ, zero, suc, ◌+◌, ◌-◌, ◌*◌, ◌<◌, ◌≤◌, Bool, true, false, not, cond, get_or, drop, List, [], ◌∷◌, ◌++◌, ◌⊎◌, inl, inr, length, refl, sym, ap, ◌∙◌, arith}
use Rattle.std.specs.Prelude.{IsTrue}
use Rattle.std.proofs.Math.Nat.{mul-le-mul_left}
use Rattle.std.proofs.lemmas.List.{drop_more, drop_all}
use Rattle.std.proofs.lemmas.Bool.{cases_lt}
use Rattle.sat_base.specs.Literal.{Literal, positive_of, negative_of, negated}
use Rattle.sat_base.specs.Clauses.{Mentions, EachVariable, NameOnly}
use Rattle.sat_base.specs.Truth.{Valuation, is_true, SatisfiesClause, Satisfies, true_count, AgreeExcept}
use Rattle.sat_base.proofs.Clauses.{EachVariable-weaken, NameOnly-append, mentions_own}
use Rattle.sat_base.proofs.Truth.{is_true-negated, Satisfies-append, Satisfies-of_append}
use Rattle.sat_base.proofs.Agree.{AgreeExcept-refl, AgreeExcept-trans, true_count-below, is_true-below}
use Rattle.at_most.specs.Sequential.{all_false, first_row, carried, no_more, next_row, later_rows, sequential, sequential_count}
use Rattle.at_most.specs.AtMost.{Limits, IsNew}
use Rattle.at_most.proofs.Counted.{counting, RowIs, RowIs-counting, AgreeExcept-counting, RowIs-agree, row_true, row_false, row_reached}

-- one more where the test is true
abbrev pub bit : Bool → ℕ
bit b = cond b 1 0

pub bit_is_1 : (b : Bool) → 0 < bit b → b ≡ true
bit_is_1 true h = refl
bit_is_1 false h = absurd (omega arith)

pub bit_most : (b : Bool) → bit b ≤ 1
bit_most true = omega arith
bit_most false = omega arith

-- a clause of one or two negated literals and one that is not, as an implication
pub then_true : (p q : Bool) → IsTrue (not p) ⊎ (IsTrue q ⊎ ⊥) → p ≡ true → q ≡ true
then_true p q (inl e) h = let bad : false ≡ true = rw h at e in absurd (let f : ⊥ = cc in f)
then_true p q (inr (inl e)) h = e
then_true p q (inr (inr e)) h = absurd e

pub both_then_true : (a p q : Bool) → IsTrue (not a) ⊎ (IsTrue (not p) ⊎ (IsTrue q ⊎ ⊥)) → a ≡ true → p ≡ true → q ≡ true
both_then_true a p q (inl e) ha hp = let bad : false ≡ true = rw ha at e in absurd (let f : ⊥ = cc in f)
both_then_true a p q (inr s) ha hp = then_true p q s hp

pub if_true : (p q : Bool) → (p ≡ true → q ≡ true) → IsTrue (not p) ⊎ (IsTrue q ⊎ ⊥)
if_true true q h = inr (inl (h refl))
if_true false q h = inl refl

pub if_both_true : (a p q : Bool) → (a ≡ true → p ≡ true → q ≡ true) → IsTrue (not a) ⊎ (IsTrue (not p) ⊎ (IsTrue q ⊎ ⊥))
if_both_true true p q h = inr (if_true p q (h refl))
if_both_true false p q h = inl refl

-- not both
pub one_is_false : (a p : Bool) → IsTrue (not a) ⊎ (IsTrue (not p) ⊎ ⊥) → a ≡ true → p ≡ false
one_is_false a true (inl e) ha = let bad : false ≡ true = rw ha at e in absurd (let f : ⊥ = cc in f)
one_is_false a true (inr (inl e)) ha = absurd (let f : ⊥ = cc in f)
one_is_false a true (inr (inr e)) ha = absurd e
one_is_false a false s ha = refl

pub if_one_false : (a p : Bool) → (a ≡ true → p ≡ false) → IsTrue (not a) ⊎ (IsTrue (not p) ⊎ ⊥)
if_one_false true p h = inr (inl (ap not (h refl)))
if_one_false false p h = inl refl

all_false_satisfied : (values : Valuation) (var count : ℕ) → ((i : ℕ) → i < count → values (var + i) ≡ false) → Satisfies values (all_false var count)
all_false_satisfied values var zero each = tt
all_false_satisfied values var (suc count) each =
    let here : var + 0 ≡ var = omega arith in
    let first : values var ≡ false = rw here at (each 0 (omega arith)) in
    (inl (ap not first), all_false_satisfied values (var + 1) count (λ i h. let e : var + suc i ≡ var + 1 + i = omega arith in rw e at (each (suc i) (omega arith))))

pub last_row_fits : (rows n k next most : ℕ) → rows + 1 ≤ n - 1 → next + (n - 1) * k ≤ most → next + rows * k + k ≤ most
last_row_fits rows n k next most within fits = let h = mul-le-mul_left k within in omega (arith, h)

-- the two clauses of a place, and then those of the next
pub carried_step : (x : Literal) (row k place : ℕ) → place < k - 1 → carried x (row + place) (row + k + place) (k - 1 - place)
    ≡ ((negated x ∷ negative_of (row + place) ∷ positive_of (row + k + place + 1) ∷ []) ∷ (negative_of (row + place + 1) ∷ positive_of (row + k + place + 1) ∷ []) ∷ [])
    ++ carried x (row + (place + 1)) (row + k + (place + 1)) (k - 1 - (place + 1))
carried_step x row k place within =
    let n : k - 1 - place ≡ suc (k - 1 - (place + 1)) = omega arith in
    let e : row + (place + 1) ≡ row + place + 1 = omega arith in
    let f : row + k + (place + 1) ≡ row + k + place + 1 = omega arith in
    rw (n, e, f) refl

pub all_false_step : (row k place : ℕ) → place < k → all_false (row + place) (k - place) ≡ ((negative_of (row + place) ∷ []) ∷ []) ++ all_false (row + (place + 1)) (k - (place + 1))
all_false_step row k place within =
    let n : k - place ≡ suc (k - (place + 1)) = omega arith in
    let e : row + (place + 1) ≡ row + place + 1 = omega arith in
    rw (n, e) refl

-- the row of the first literal, and then the later ones
pub sequential_step : (literals : List Literal) (k next : ℕ) (x : Literal) → 0 < length literals → x ≡ get_or literals 0 x → sequential literals k next ≡ first_row x next k ++ later_rows (drop 1 literals) next k
sequential_step [] k next x some found = absurd (omega arith)
sequential_step (y ∷ literals) k next x some found = rw found refl

-- the row of a literal between the first and the last, and then the later ones
pub later_step : (literals : List Literal) (index row k : ℕ) (x : Literal) → index + 1 < length literals → x ≡ get_or literals index x → later_rows (drop index literals) row k ≡ next_row x row (row + k) k ++ later_rows (drop (index + 1) literals) (row + k) k
later_step literals index row k x within found =
    let here : index < length literals = omega arith in
    rw (drop_more literals index x here, ← found, drop_more literals (index + 1) x within) refl

pub later_last : (literals : List Literal) (index row k : ℕ) (x : Literal) → index + 1 ≡ length literals → x ≡ get_or literals index x → later_rows (drop index literals) row k ≡ no_more x row k ∷ []
later_last literals index row k x last found =
    let here : index < length literals = omega arith in
    let over : length literals ≤ index + 1 = omega arith in
    rw (drop_more literals index x here, ← found, drop_all (index + 1) literals over) refl

-- the rows so far and two more have numbers, where the list has so many literals
pub rows_fit : (rows n k next most : ℕ) → rows + 2 ≤ n - 1 → next + (n - 1) * k ≤ most → next + rows * k + (k + k) ≤ most
rows_fit rows n k next most within fits = let h = mul-le-mul_left k within in omega (arith, h)

-- what the two clauses of a place say
abbrev pub Carries : Valuation → Literal → ℕ → ℕ → ℕ → Type 0
Carries values x before here i =
    (is_true values x ≡ true → values (before + i) ≡ true → values (here + (i + 1)) ≡ true) × (values (before + (i + 1)) ≡ true → values (here + (i + 1)) ≡ true)

Carries-later : (values : Valuation) (x : Literal) (before here i : ℕ) → Carries values x (before + 1) (here + 1) i → Carries values x before here (suc i)
Carries-later values x before here i c =
    let e : before + 1 + i ≡ before + suc i = omega arith in
    let f : here + 1 + (i + 1) ≡ here + (suc i + 1) = omega arith in
    let g : before + 1 + (i + 1) ≡ before + (suc i + 1) = omega arith in
    rw (e, f, g) at c

Carries-earlier : (values : Valuation) (x : Literal) (before here i : ℕ) → Carries values x before here (suc i) → Carries values x (before + 1) (here + 1) i
Carries-earlier values x before here i c =
    let e : before + 1 + i ≡ before + suc i = omega arith in
    let f : here + 1 + (i + 1) ≡ here + (suc i + 1) = omega arith in
    let g : before + 1 + (i + 1) ≡ before + (suc i + 1) = omega arith in
    rw (e, f, g) c

Carries-first : (values : Valuation) (x : Literal) (before here : ℕ) → (is_true values x ≡ true → values before ≡ true → values (here + 1) ≡ true) × (values (before + 1) ≡ true → values (here + 1) ≡ true) → Carries values x before here 0
Carries-first values x before here c =
    let e : before + 0 ≡ before = omega arith in
    let f : here + (0 + 1) ≡ here + 1 = omega arith in
    let g : before + (0 + 1) ≡ before + 1 = omega arith in
    rw (e, f, g) c

Carries-of_first : (values : Valuation) (x : Literal) (before here : ℕ) → Carries values x before here 0 → (is_true values x ≡ true → values before ≡ true → values (here + 1) ≡ true) × (values (before + 1) ≡ true → values (here + 1) ≡ true)
Carries-of_first values x before here c =
    let e : before + 0 ≡ before = omega arith in
    let f : here + (0 + 1) ≡ here + 1 = omega arith in
    let g : before + (0 + 1) ≡ before + 1 = omega arith in
    rw (e, f, g) at c

pub carried_holds : (values : Valuation) (x : Literal) (before here count i : ℕ) → i < count → Satisfies values (carried x before here count) → Carries values x before here i
carried_holds values x before here zero i within s = absurd (omega arith)
carried_holds values x before here (suc count) zero within s =
    Carries-first values x before here (
      both_then_true (is_true values x) (values before) (values (here + 1)) (rw (is_true-negated values x) at s.0),
      then_true (values (before + 1)) (values (here + 1)) s.1.0,
    )
carried_holds values x before here (suc count) (suc i) within s =
    Carries-later values x before here i (carried_holds values x (before + 1) (here + 1) count i (omega arith) s.1.1)

pub carried_satisfied : (values : Valuation) (x : Literal) (before here count : ℕ) → ((i : ℕ) → i < count → Carries values x before here i) → Satisfies values (carried x before here count)
carried_satisfied values x before here zero each = tt
carried_satisfied values x before here (suc count) each =
    let first = Carries-of_first values x before here (each 0 (omega arith)) in (
      rw (is_true-negated values x) (if_both_true (is_true values x) (values before) (values (here + 1)) first.0),
      (
        if_true (values (before + 1)) (values (here + 1)) first.1,
        carried_satisfied values x (before + 1) (here + 1) count (λ i h. Carries-earlier values x before here i (each (suc i) (omega arith))),
      ),
    )

-- the variables of the row say at least what is true
abbrev pub Reaches : Valuation → ℕ → ℕ → ℕ → Type 0
Reaches values base k t = (i : ℕ) → i < k → i < t → values (base + i) ≡ true

first_holds : (values : Valuation) (x : Literal) (row k : ℕ) → Satisfies values (first_row x row k) → Reaches values row k (bit (is_true values x))
first_holds values x row k s zero within reached =
    let e : row + 0 ≡ row = omega arith in
    rw e (then_true (is_true values x) (values row) (rw (is_true-negated values x) at s.0) (bit_is_1 (is_true values x) reached))
first_holds values x row k s (suc i) within reached = absurd (let h = bit_most (is_true values x) in omega arith)

-- where the literal is true, the number before it is below k
no_more_holds : (values : Valuation) (x : Literal) (before k t : ℕ) → 1 ≤ k → t ≤ k → Reaches values before k t → SatisfiesClause values (no_more x before k) → t + bit (is_true values x) ≤ k
no_more_holds values x before k t some most row s =
    let clause : IsTrue (not (is_true values x)) ⊎ (IsTrue (not (values (before + (k - 1)))) ⊎ ⊥) = rw (is_true-negated values x) at s in
    elim (is_true values x) as (λ b. is_true values x ≡ b → t + bit b ≤ k) [
      | true ↦ λ e. elim (cases_lt (k - 1) t) [
        | inl full ↦
            let last : values (before + (k - 1)) ≡ true = row (k - 1) (omega arith) full in
            let low : values (before + (k - 1)) ≡ false = one_is_false (is_true values x) (values (before + (k - 1))) clause e in
            absurd (let bad : true ≡ false = sym last ∙ low in let f : ⊥ = cc in f)
        | inr room ↦ omega arith
      ]
      | false ↦ λ e. omega arith
    ] refl

next_reaches : (values : Valuation) (x : Literal) (before here k t i : ℕ) → Reaches values before k t → Satisfies values (next_row x before here k) → i < k → i < t + bit (is_true values x) → values (here + i) ≡ true
next_reaches values x before here k t zero row s within reached =
    let e : here + 0 ≡ here = omega arith in
    let f : before + 0 ≡ before = omega arith in
    rw e (elim (cases_lt 0 t) [
      | inl some ↦ then_true (values before) (values here) s.1.0 (rw f at (row 0 within some))
      | inr none ↦ then_true (is_true values x) (values here) (rw (is_true-negated values x) at s.0) (bit_is_1 (is_true values x) (omega arith))
    ])
next_reaches values x before here k t (suc i) row s within reached =
    let c = carried_holds values x before here (k - 1) i (omega arith) (Satisfies-of_append values (carried x before here (k - 1)) (no_more x before k ∷ []) s.1.1).0 in
    let e : here + suc i ≡ here + (i + 1) = omega arith in
    let f : before + suc i ≡ before + (i + 1) = omega arith in
    rw e (elim (cases_lt (suc i) t) [
      | inl before_too ↦ c.1 (rw f at (row (suc i) within before_too))
      | inr now ↦
          let most = bit_most (is_true values x) in
          c.0 (bit_is_1 (is_true values x) (omega arith)) (row i (omega arith) (omega arith))
    ])

next_holds : (values : Valuation) (x : Literal) (before here k t : ℕ) → 1 ≤ k → t ≤ k → Reaches values before k t → Satisfies values (next_row x before here k) → Reaches values here k (t + bit (is_true values x)) × (t + bit (is_true values x) ≤ k)
next_holds values x before here k t some most row s =
    let last = (Satisfies-of_append values (carried x before here (k - 1)) (no_more x before k ∷ []) s.1.1).1 in
    (λ i. next_reaches values x before here k t i row s, no_more_holds values x before k t some most row last.0)

later_holds : (values : Valuation) (literals : List Literal) (before k t : ℕ) → 1 ≤ k → t ≤ k → Reaches values before k t → Satisfies values (later_rows literals before k) → t + true_count values literals ≤ k
later_holds values [] before k t some most row s = omega arith
later_holds values (x ∷ []) before k t some most row s = let h = no_more_holds values x before k t some most row s.0 in omega arith
later_holds values (x ∷ y ∷ rest) before k t some most row s =
    let parts = Satisfies-of_append values (next_row x before (before + k) k) (later_rows (y ∷ rest) (before + k) k) s in
    let next = next_holds values x before (before + k) k t some most row parts.0 in
    let h = later_holds values (y ∷ rest) (before + k) k (t + bit (is_true values x)) some next.1 next.0 parts.1 in
    omega arith

pub sequential_holds : (values : Valuation) (literals : List Literal) (k next : ℕ) → 1 ≤ k → Satisfies values (sequential literals k next) → true_count values literals ≤ k
sequential_holds values [] k next some s = omega arith
sequential_holds values (x ∷ rest) k next some s =
    let parts = Satisfies-of_append values (first_row x next k) (later_rows rest next k) s in
    let most = bit_most (is_true values x) in
    let h = later_holds values rest next k (bit (is_true values x)) some (omega arith) (first_holds values x next k parts.0) parts.1 in
    omega arith

first_satisfied : (values : Valuation) (x : Literal) (row k : ℕ) → 1 ≤ k → RowIs values row k (bit (is_true values x)) → Satisfies values (first_row x row k)
first_satisfied values x row k some is =
    let b : Bool = is_true values x in
    let most = bit_most b in
    let e : row + 0 ≡ row = omega arith in
    let first : b ≡ true → values row ≡ true = λ h. rw e at (row_true values row k (bit b) 0 is (omega arith) (rw h (omega arith))) in
    let others : (i : ℕ) → i < k - 1 → values (row + 1 + i) ≡ false =
    λ i h. let f : row + 1 + i ≡ row + (i + 1) = omega arith in rw f (row_false values row k (bit b) (i + 1) is (omega arith) (omega arith)) in
    (rw (is_true-negated values x) (if_true b (values row) first), all_false_satisfied values (row + 1) (k - 1) others)

no_more_satisfied : (values : Valuation) (x : Literal) (before k t : ℕ) → 1 ≤ k → RowIs values before k t → t + bit (is_true values x) ≤ k → SatisfiesClause values (no_more x before k)
no_more_satisfied values x before k t some is most =
    let b : Bool = is_true values x in
    let last : b ≡ true → values (before + (k - 1)) ≡ false = λ h. row_false values before k t (k - 1) is (omega arith) (let m = rw h at most in omega arith) in
    rw (is_true-negated values x) (if_one_false b (values (before + (k - 1))) last)

next_satisfied : (values : Valuation) (x : Literal) (before here k t : ℕ) → 1 ≤ k → RowIs values before k t → RowIs values here k (t + bit (is_true values x)) → t + bit (is_true values x) ≤ k → Satisfies values (next_row x before here k)
next_satisfied values x before here k t some is now most =
    let b : Bool = is_true values x in
    let at_here : here + 0 ≡ here = omega arith in
    let at_before : before + 0 ≡ before = omega arith in
    let by_x : b ≡ true → values here ≡ true = λ h. rw at_here at (row_true values here k (t + bit b) 0 now (omega arith) (rw h (omega arith))) in
    let by_before : values before ≡ true → values here ≡ true =
    λ h. let some_before = row_reached values before k t 0 is (omega arith) (rw at_before h) in rw at_here at (row_true values here k (t + bit b) 0 now (omega arith) (omega arith)) in
    let carries : (i : ℕ) → i < k - 1 → Carries values x before here i =
    λ i h. (
      λ e p. let reached = row_reached values before k t i is (omega arith) p in row_true values here k (t + bit b) (i + 1) now (omega arith) (rw e (omega arith)),
      λ p. let reached = row_reached values before k t (i + 1) is (omega arith) p in row_true values here k (t + bit b) (i + 1) now (omega arith) (omega arith),
    ) in (
      rw (is_true-negated values x) (if_true b (values here) by_x),
      (
        if_true (values before) (values here) by_before,
        Satisfies-append values (carried x before here (k - 1)) (no_more x before k ∷ []) (carried_satisfied values x before here (k - 1) carries)
            (no_more_satisfied values x before k t some is most, tt),
      ),
    )

-- a literal below two changes, one after the other
same_after_two : (from middle end : ℕ) (values changed other : Valuation) (x : Literal) → AgreeExcept from middle values changed → AgreeExcept middle end changed other → x.var < from → x.var < middle → is_true values x ≡ is_true other x
same_after_two from middle end values changed other x first second below below_middle =
    is_true-below from middle values changed x first below ∙ is_true-below middle end changed other x second below_middle

later_extends : (literals : List Literal) (values : Valuation) (before k t end : ℕ) → 1 ≤ k → RowIs values before k t → EachVariable (λ var. var < before) literals → t + true_count values literals ≤ k → end ≡ before + k + (length literals - 1) * k
    → (other : Valuation) × (AgreeExcept (before + k) end values other × Satisfies other (later_rows literals before k))
later_extends [] values before k t end some is below most ends = (values, (AgreeExcept-refl (before + k) end values, tt))
later_extends (x ∷ []) values before k t end some is below most ends =
    (values, (AgreeExcept-refl (before + k) end values, (no_more_satisfied values x before k t some is (omega arith), tt)))
later_extends (x ∷ y ∷ rest) values before k t end some is below most ends =
    let now : ℕ = t + bit (is_true values x) in
    let changed : Valuation = counting values (before + k) k now in
    let change : AgreeExcept (before + k) (before + k + k) values changed = AgreeExcept-counting values (before + k) k now in
    let row : RowIs changed (before + k) k now = RowIs-counting values (before + k) k now in
    let below_row : EachVariable (λ var. var < before + k) (y ∷ rest) = EachVariable-weaken (λ var. var < before) (λ var. var < before + k) (y ∷ rest) (λ var h. omega arith) below.1 in
    let same_count : true_count values (y ∷ rest) ≡ true_count changed (y ∷ rest) = true_count-below (before + k) (before + k + k) values changed (y ∷ rest) change below_row in
    let few : now + true_count changed (y ∷ rest) ≤ k = rw (← same_count) (omega arith) in
    let rows : length (x ∷ y ∷ rest) - 1 ≡ suc (length rest) = omega arith in
    let fewer_rows : length (y ∷ rest) - 1 ≡ length rest = omega arith in
    let ends_later : end ≡ before + k + k + (length (y ∷ rest) - 1) * k = ends ∙ rw (rows, fewer_rows) (omega arith) in
    let later = later_extends (y ∷ rest) changed (before + k) k now end some row below_row few ends_later in
    let other : Valuation = later.0 in
    let agree : AgreeExcept (before + k + k) end changed other = later.1.0 in
    let room : before + k + k ≤ end = omega (arith, ends_later) in
    let same_x : is_true values x ≡ is_true other x = same_after_two (before + k) (before + k + k) end values changed other x change agree (omega (arith, below.0)) (omega (arith, below.0)) in
    let was : RowIs other before k t =
    RowIs-agree (before + k + k) end before k t changed other (omega arith) agree (RowIs-agree (before + k) (before + k + k) before k t values changed (omega arith) change is) in
    let is_now : RowIs other (before + k) k now = RowIs-agree (before + k + k) end (before + k) k now changed other (omega arith) agree row in
    let at_most : now ≤ k = omega arith in
    let next : Satisfies other (next_row x before (before + k) k) = next_satisfied other x before (before + k) k t some was (rw (← same_x) is_now) (rw (← same_x) at_most) in (
      other,
      (
        AgreeExcept-trans (before + k) end (before + k) (before + k + k) (before + k + k) end values changed other (omega arith) room (omega arith) (omega arith) change agree,
        Satisfies-append other (next_row x before (before + k) k) (later_rows (y ∷ rest) (before + k) k) next later.1.1,
      ),
    )

-- the fact holds of each new variable
abbrev pub OfNew : (ℕ → Type 0) → ℕ → ℕ → Type 0
OfNew P low high = (var : ℕ) → low ≤ var → var < high → P var

all_false_names : (P : ℕ → Type 0) (low high var count : ℕ) → OfNew P low high → low ≤ var → var + count ≤ high → NameOnly P (all_false var count)
all_false_names P low high var zero new from to = tt
all_false_names P low high var (suc count) new from to = ((new var from (omega arith), tt), all_false_names P low high (var + 1) count new (omega arith) (omega arith))

carried_names : (P : ℕ → Type 0) (low high : ℕ) (x : Literal) (before here count : ℕ) → OfNew P low high → P x.var → low ≤ before → before < here → here + count < high → NameOnly P (carried x before here count)
carried_names P low high x before here zero new own from order to = tt
carried_names P low high x before here (suc count) new own from order to =
    let next : P (here + 1) = new (here + 1) (omega arith) (omega arith) in
    ((own, (new before from (omega arith), (next, tt))), ((new (before + 1) (omega arith) (omega arith), (next, tt)), carried_names P low high x (before + 1) (here + 1) count new own (omega arith) (omega arith) (omega arith)))

no_more_names : (P : ℕ → Type 0) (low high : ℕ) (x : Literal) (before k : ℕ) → OfNew P low high → P x.var → 1 ≤ k → low ≤ before → before + k ≤ high → EachVariable P (no_more x before k)
no_more_names P low high x before k new own some from to = (own, (new (before + (k - 1)) (omega arith) (omega arith), tt))

next_names : (P : ℕ → Type 0) (low high : ℕ) (x : Literal) (before k : ℕ) → OfNew P low high → P x.var → 1 ≤ k → low ≤ before → before + k + k ≤ high → NameOnly P (next_row x before (before + k) k)
next_names P low high x before k new own some from to =
    let here : P (before + k) = new (before + k) (omega arith) (omega arith) in (
      (own, (here, tt)),
      (
        (new before from (omega arith), (here, tt)),
        NameOnly-append P (carried x before (before + k) (k - 1)) (no_more x before k ∷ [])
            (carried_names P low high x before (before + k) (k - 1) new own from (omega arith) (omega arith))
            (no_more_names P low high x before k new own some from (omega arith), tt),
      ),
    )

later_names : (P : ℕ → Type 0) (low high : ℕ) (literals : List Literal) (before k : ℕ) → OfNew P low high → EachVariable P literals → 1 ≤ k → low ≤ before → before + k + (length literals - 1) * k ≤ high → NameOnly P (later_rows literals before k)
later_names P low high [] before k new own some from to = tt
later_names P low high (x ∷ []) before k new own some from to = (no_more_names P low high x before k new own.0 some from (omega arith), tt)
later_names P low high (x ∷ y ∷ rest) before k new own some from to =
    let rows : length (x ∷ y ∷ rest) - 1 ≡ suc (length rest) = omega arith in
    let fewer_rows : length (y ∷ rest) - 1 ≡ length rest = omega arith in
    let room : before + k + suc (length rest) * k ≤ high = rw rows at to in
    let room_later : before + k + k + (length (y ∷ rest) - 1) * k ≤ high = rw fewer_rows (omega (arith, room)) in
    NameOnly-append P (next_row x before (before + k) k) (later_rows (y ∷ rest) (before + k) k)
    (next_names P low high x before k new own.0 some from (omega (arith, room_later)))
    (later_names P low high (y ∷ rest) (before + k) k new own.1 some (omega arith) room_later)

sequential_names : (P : ℕ → Type 0) (x y : Literal) (rest : List Literal) (k next high : ℕ) → OfNew P next high → EachVariable P (x ∷ y ∷ rest) → 1 ≤ k → next + suc (length rest) * k ≤ high → NameOnly P (sequential (x ∷ y ∷ rest) k next)
sequential_names P x y rest k next high new own some room =
    let fewer_rows : length (y ∷ rest) - 1 ≡ length rest = omega arith in
    let later : next + k + (length (y ∷ rest) - 1) * k ≤ high = rw fewer_rows (omega (arith, room)) in
    NameOnly-append P (first_row x next k) (later_rows (y ∷ rest) next k)
    ((own.0, (new next (omega arith) (omega (arith, later)), tt)), all_false_names P next high (next + 1) (k - 1) new (omega arith) (omega (arith, later)))
    (later_names P next high (y ∷ rest) next k new own.1 some (omega arith) later)

sequential_extends : (x y : Literal) (rest : List Literal) (k next end : ℕ) (values : Valuation) → 1 ≤ k → EachVariable (λ var. var < next) (x ∷ y ∷ rest) → end ≡ next + suc (length rest) * k → true_count values (x ∷ y ∷ rest) ≤ k
    → (other : Valuation) × (AgreeExcept next end values other × Satisfies other (sequential (x ∷ y ∷ rest) k next))
sequential_extends x y rest k next end values some below ends most =
    let now : ℕ = bit (is_true values x) in
    let changed : Valuation = counting values next k now in
    let change : AgreeExcept next (next + k) values changed = AgreeExcept-counting values next k now in
    let row : RowIs changed next k now = RowIs-counting values next k now in
    let same_count : true_count values (y ∷ rest) ≡ true_count changed (y ∷ rest) = true_count-below next (next + k) values changed (y ∷ rest) change below.1 in
    let few : now + true_count changed (y ∷ rest) ≤ k = rw (← same_count) (omega arith) in
    let fewer_rows : length (y ∷ rest) - 1 ≡ length rest = omega arith in
    let ends_later : end ≡ next + k + (length (y ∷ rest) - 1) * k = ends ∙ rw fewer_rows (omega arith) in
    let later = later_extends (y ∷ rest) changed next k now end some row below.1 few ends_later in
    let other : Valuation = later.0 in
    let agree : AgreeExcept (next + k) end changed other = later.1.0 in
    let room : next + k ≤ end = omega (arith, ends_later) in
    let same_x : is_true values x ≡ is_true other x = same_after_two next (next + k) end values changed other x change agree below.0 (omega (arith, below.0)) in
    let is_now : RowIs other next k now = RowIs-agree (next + k) end next k now changed other (omega arith) agree row in (
      other,
      (
        AgreeExcept-trans next end next (next + k) (next + k) end values changed other (omega arith) room (omega arith) (omega arith) change agree,
        Satisfies-append other (first_row x next k) (later_rows (y ∷ rest) next k) (first_satisfied other x next k some (rw (← same_x) is_now)) later.1.1,
      ),
    )

pub sequential_limits : (literals : List Literal) (k next : ℕ) → 1 ≤ k → k < length literals → EachVariable (λ var. var < next) literals → Limits k literals next (next + sequential_count (length literals) k) (sequential literals k next)
sequential_limits [] k next some fewer below = absurd (omega arith)
sequential_limits (x ∷ []) k next some fewer below = absurd (omega arith)
sequential_limits (x ∷ y ∷ rest) k next some fewer below =
    let rows : length (x ∷ y ∷ rest) - 1 ≡ suc (length rest) = omega arith in
    let literals : List Literal = x ∷ y ∷ rest in
    let P : ℕ → Type 0 = λ var. Mentions literals var ⊎ IsNew next (next + suc (length rest) * k) var in
    rw rows (record {
      names = sequential_names P x y rest k next (next + suc (length rest) * k) (λ var from to. inr (from, to)) (EachVariable-weaken (Mentions literals) P literals (λ var. inl) (mentions_own literals)) some (omega arith);
      extends = λ values. sequential_extends x y rest k next (next + suc (length rest) * k) values some below refl;
      holds = λ values. sequential_holds values literals k next some;
    })
