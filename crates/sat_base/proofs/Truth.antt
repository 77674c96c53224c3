-- What satisfies clauses.
use Rattle.std.proofs.Common.{◌≡◌, ℕ, zero, suc, slice_index_or, ◌+◌, ◌-◌, ◌<◌, ◌≤◌, Bool, true, false, not, cond, List, [], ◌∷◌, ◌++◌, ◌⊎◌, inl, inr, length, drop, refl, arith}
use Rattle.std.specs.Prelude.{IsTrue, ◌↔◌}
use Rattle.sat_base.specs.Literal.{Literal, negated}
use Rattle.sat_base.specs.Clauses.{Has, IsSubclause, EachVariable, NameOnly, clause_at}
use Rattle.sat_base.specs.Truth.{Valuation, is_true, SatisfiesClause, Satisfies, true_count}
use Rattle.sat_base.proofs.Clauses.{next_clause}

sign_negated : (positive value : Bool) → cond (not positive) value (not value) ≡ not (cond positive value (not value))
sign_negated true true = refl
sign_negated true false = refl
sign_negated false true = refl
sign_negated false false = refl

pub is_true-negated : (values : Valuation) (literal : Literal) → is_true values (negated literal) ≡ not (is_true values literal)
is_true-negated values literal = sign_negated literal.positive (values literal.var)

-- a true literal of the clause satisfies it
pub SatisfiesClause-has : (values : Valuation) (clause : List Literal) (literal : Literal) → Has clause literal → IsTrue (is_true values literal) → SatisfiesClause values clause
SatisfiesClause-has values [] literal has holds = absurd has
SatisfiesClause-has values (x ∷ clause) literal has holds =
    elim has [ inl e ↦ inl (rw e holds) | inr h ↦ inr (SatisfiesClause-has values clause literal h holds) ]

-- a satisfied clause has a true literal
pub some_true : (values : Valuation) (clause : List Literal) → SatisfiesClause values clause → (literal : Literal) × (Has clause literal × IsTrue (is_true values literal))
some_true values [] s = absurd s
some_true values (x ∷ clause) s =
    elim s [ inl e ↦ (x, (inl refl, e)) | inr h ↦ let r = some_true values clause h in (r.0, (inr r.1.0, r.1.1)) ]

pub SatisfiesClause-subclause : (values : Valuation) (part whole : List Literal) → IsSubclause part whole → SatisfiesClause values part → SatisfiesClause values whole
SatisfiesClause-subclause values part whole sub s =
    let r = some_true values part s in SatisfiesClause-has values whole r.0 (sub r.0 r.1.0) r.1.1

satisfied_by : (b : Bool) (P : Type 0) → P ⊎ (P → ⊥) → (IsTrue b ⊎ P) ⊎ (IsTrue b ⊎ P → ⊥)
satisfied_by true P known = inl (inl refl)
satisfied_by false P known =
    elim known [ inl p ↦ inl (inr p) | inr n ↦ inr (λ s. elim s [ inl e ↦ cc | inr p ↦ n p ]) ]

-- each clause is satisfied or is not
pub satisfied_or_not : (values : Valuation) (clause : List Literal) → SatisfiesClause values clause ⊎ (SatisfiesClause values clause → ⊥)
satisfied_or_not values [] = inr (λ s. s)
satisfied_or_not values (x ∷ clause) = satisfied_by (is_true values x) (SatisfiesClause values clause) (satisfied_or_not values clause)

pub Satisfies-append : (values : Valuation) (a b : List (List Literal)) → Satisfies values a → Satisfies values b → Satisfies values (a ++ b)
Satisfies-append values [] b ha hb = hb
Satisfies-append values (c ∷ a) b ha hb = (ha.0, Satisfies-append values a b ha.1 hb)

pub Satisfies-of_append : (values : Valuation) (a b : List (List Literal)) → Satisfies values (a ++ b) → Satisfies values a × Satisfies values b
Satisfies-of_append values [] b h = (tt, h)
Satisfies-of_append values (c ∷ a) b h = let rest = Satisfies-of_append values a b h.1 in ((h.0, rest.0), rest.1)

-- only the variables of the clauses count
pub SatisfiesClause-agree : (values other : Valuation) (clause : List Literal) → EachVariable (λ var. values var ≡ other var) clause → SatisfiesClause values clause → SatisfiesClause other clause
SatisfiesClause-agree values other [] same s = s
SatisfiesClause-agree values other (x ∷ clause) same s =
    elim s [ inl e ↦ inl (rw (← same.0) e) | inr h ↦ inr (SatisfiesClause-agree values other clause same.1 h) ]

pub Satisfies-agree : (values other : Valuation) (clauses : List (List Literal)) → NameOnly (λ var. values var ≡ other var) clauses → Satisfies values clauses → Satisfies other clauses
Satisfies-agree values other [] same s = tt
Satisfies-agree values other (clause ∷ clauses) same s = (SatisfiesClause-agree values other clause same.0 s.0, Satisfies-agree values other clauses same.1 s.1)

pub true_count-agree : (values other : Valuation) (literals : List Literal) → EachVariable (λ var. values var ≡ other var) literals → true_count values literals ≡ true_count other literals
true_count-agree values other [] same = refl
true_count-agree values other (x ∷ literals) same = rw (same.0, true_count-agree values other literals same.1)

pub true_count-append : (values : Valuation) (a b : List Literal) → true_count values (a ++ b) ≡ true_count values a + true_count values b
true_count-append values [] b = omega arith
true_count-append values (x ∷ a) b = rw (true_count-append values a b) (omega arith)

-- the next clause and those after it
pub Satisfies-next : (values : Valuation) (clauses : List (List Literal)) (k : ℕ) → k < length clauses → Satisfies values (drop k clauses) ↔ (SatisfiesClause values (clause_at clauses (k + 1)) × Satisfies values (drop (k + 1) clauses))
Satisfies-next values clauses k within = rw (next_clause clauses k within) (λ s. s, λ s. s)

pub SatisfiesClause-append_left : (values : Valuation) (a b : List Literal) → SatisfiesClause values a → SatisfiesClause values (a ++ b)
SatisfiesClause-append_left values [] b s = absurd s
SatisfiesClause-append_left values (x ∷ a) b s = elim s [ inl e ↦ inl e | inr h ↦ inr (SatisfiesClause-append_left values a b h) ]

pub SatisfiesClause-append_right : (values : Valuation) (a b : List Literal) → SatisfiesClause values b → SatisfiesClause values (a ++ b)
SatisfiesClause-append_right values [] b s = s
SatisfiesClause-append_right values (x ∷ a) b s = inr (SatisfiesClause-append_right values a b s)

pub SatisfiesClause-of_append : (values : Valuation) (a b : List Literal) → SatisfiesClause values (a ++ b) → SatisfiesClause values a ⊎ SatisfiesClause values b
SatisfiesClause-of_append values [] b s = inr s
SatisfiesClause-of_append values (x ∷ a) b s =
    elim s [ inl e ↦ inl (inl e) | inr h ↦ elim (SatisfiesClause-of_append values a b h) [ inl k ↦ inl (inr k) | inr k ↦ inr k ] ]

pub true_count-most : (values : Valuation) (literals : List Literal) → true_count values literals ≤ length literals
true_count-most values [] = omega arith
true_count-most values (x ∷ literals) =
    let h = true_count-most values literals in
    elim (is_true values x) as (λ b. cond b 1 0 + true_count values literals ≤ length (x ∷ literals)) [ true ↦ omega arith | false ↦ omega arith ]

satisfied_at : (values : Valuation) (clauses : List (List Literal)) (k : ℕ) → k < length clauses → Satisfies values clauses → SatisfiesClause values (slice_index_or clauses k [])
satisfied_at values [] k within s = absurd (omega arith)
satisfied_at values (clause ∷ clauses) zero within s = s.0
satisfied_at values (clause ∷ clauses) (suc k) within s = satisfied_at values clauses k (omega arith) s.1

-- the clause of a number is satisfied, where all are
pub SatisfiesClause-at : (values : Valuation) (clauses : List (List Literal)) (number : ℕ) → 1 ≤ number → number ≤ length clauses → Satisfies values clauses → SatisfiesClause values (clause_at clauses number)
SatisfiesClause-at values clauses number from_1 within = satisfied_at values clauses (number - 1) (omega arith)

-- all are satisfied, where the clause of each number is
pub Satisfies-each : (values : Valuation) (clauses : List (List Literal)) → ((number : ℕ) → 1 ≤ number → number ≤ length clauses → SatisfiesClause values (clause_at clauses number)) → Satisfies values clauses
Satisfies-each values [] each = tt
Satisfies-each values (clause ∷ clauses) each = (
  each 1 (omega arith) (omega arith),
  Satisfies-each values clauses (λ number from_1 within.
      let e : suc number - 1 ≡ suc (number - 1) = omega arith in
      let later : SatisfiesClause values (slice_index_or (clause ∷ clauses) (suc number - 1) []) = each (suc number) (omega arith) (omega arith) in
      rw e at later),
)
