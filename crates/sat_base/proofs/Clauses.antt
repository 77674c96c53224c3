-- Clauses as sets, their variables, and lists of clauses.
use Rattle.std.proofs.Common.{◌≡◌, ◌≢◌, ℕ, zero, suc, slice_index_or, get_or, ◌+◌, ◌-◌, ◌<◌, List, [], ◌∷◌, ◌++◌, ◌⊎◌, inl, inr, length, map, drop, refl, subst, arith}
use Rattle.std.specs.Prelude.{Contains}
use Rattle.std.proofs.lemmas.List.{drop_more}
use Rattle.sat_base.specs.Literal.{Literal, negated}
use Rattle.sat_base.specs.Clauses.{Has, IsSubclause, SameLiterals, Mentions, EachVariable, NameOnly, HasDistinctVariables, HaveDistinctVariables, clause_at}

-- the clauses from index k on begin with the clause of number k + 1
pub next_clause : (clauses : List (List Literal)) (k : ℕ) → k < length clauses → drop k clauses ≡ clause_at clauses (k + 1) ∷ drop (k + 1) clauses
next_clause clauses k within = let e : k + 1 - 1 ≡ k = omega arith in rw e (drop_more clauses k [] within)

pub IsSubclause-refl : (clause : List Literal) → IsSubclause clause clause
IsSubclause-refl clause literal has = has

pub IsSubclause-trans : (a b c : List Literal) → IsSubclause a b → IsSubclause b c → IsSubclause a c
IsSubclause-trans a b c ab bc literal has = bc literal (ab literal has)

pub SameLiterals-sym : (a b : List Literal) → SameLiterals a b → SameLiterals b a
SameLiterals-sym a b same = (same.1, same.0)

pub Has-append_left : (a b : List Literal) (literal : Literal) → Has a literal → Has (a ++ b) literal
Has-append_left [] b literal has = absurd has
Has-append_left (x ∷ a) b literal has =
    elim has [ inl e ↦ inl e | inr h ↦ inr (Has-append_left a b literal h) ]

pub Has-append_right : (a b : List Literal) (literal : Literal) → Has b literal → Has (a ++ b) literal
Has-append_right [] b literal has = has
Has-append_right (x ∷ a) b literal has = inr (Has-append_right a b literal has)

pub Has-append : (a b : List Literal) (literal : Literal) → Has (a ++ b) literal → Has a literal ⊎ Has b literal
Has-append [] b literal has = inr has
Has-append (x ∷ a) b literal has =
    elim has [ inl e ↦ inl (inl e) | inr h ↦ elim (Has-append a b literal h) [ inl k ↦ inl (inr k) | inr k ↦ inr k ] ]

pub EachVariable-weaken : (P Q : ℕ → Type 0) (clause : List Literal) → ((var : ℕ) → P var → Q var) → EachVariable P clause → EachVariable Q clause
EachVariable-weaken P Q [] weaker each = tt
EachVariable-weaken P Q (x ∷ clause) weaker each = (weaker x.var each.0, EachVariable-weaken P Q clause weaker each.1)

pub EachVariable-append : (P : ℕ → Type 0) (a b : List Literal) → EachVariable P a → EachVariable P b → EachVariable P (a ++ b)
EachVariable-append P [] b ha hb = hb
EachVariable-append P (x ∷ a) b ha hb = (ha.0, EachVariable-append P a b ha.1 hb)

pub EachVariable-of_append : (P : ℕ → Type 0) (a b : List Literal) → EachVariable P (a ++ b) → EachVariable P a × EachVariable P b
EachVariable-of_append P [] b h = (tt, h)
EachVariable-of_append P (x ∷ a) b h = let rest : EachVariable P a × EachVariable P b = EachVariable-of_append P a b h.1 in ((h.0, rest.0), rest.1)

pub EachVariable-negated : (P : ℕ → Type 0) (clause : List Literal) → EachVariable P clause → EachVariable P (map negated clause)
EachVariable-negated P [] h = tt
EachVariable-negated P (x ∷ clause) h = (h.0, EachVariable-negated P clause h.1)

-- the fact holds of the variable of each literal
pub EachVariable-has : (P : ℕ → Type 0) (clause : List Literal) (literal : Literal) → EachVariable P clause → Has clause literal → P literal.var
EachVariable-has P [] literal each has = absurd has
EachVariable-has P (x ∷ clause) literal each has =
    elim has [ inl e ↦ subst (λ (l : Literal). P l.var) e each.0 | inr h ↦ EachVariable-has P clause literal each.1 h ]

pub NameOnly-weaken : (P Q : ℕ → Type 0) (clauses : List (List Literal)) → ((var : ℕ) → P var → Q var) → NameOnly P clauses → NameOnly Q clauses
NameOnly-weaken P Q [] weaker only = tt
NameOnly-weaken P Q (clause ∷ clauses) weaker only = (EachVariable-weaken P Q clause weaker only.0, NameOnly-weaken P Q clauses weaker only.1)

pub NameOnly-append : (P : ℕ → Type 0) (a b : List (List Literal)) → NameOnly P a → NameOnly P b → NameOnly P (a ++ b)
NameOnly-append P [] b ha hb = hb
NameOnly-append P (c ∷ a) b ha hb = (ha.0, NameOnly-append P a b ha.1 hb)

-- the next clause and those after it
pub NameOnly-next : (P : ℕ → Type 0) (clauses : List (List Literal)) (k : ℕ) → k < length clauses → NameOnly P (drop k clauses) → EachVariable P (clause_at clauses (k + 1)) × NameOnly P (drop (k + 1) clauses)
NameOnly-next P clauses k within only = rw (next_clause clauses k within) at only

pub HaveDistinctVariables-append : (a b : List (List Literal)) → HaveDistinctVariables a → HaveDistinctVariables b → HaveDistinctVariables (a ++ b)
HaveDistinctVariables-append [] b ha hb = hb
HaveDistinctVariables-append (c ∷ a) b ha hb = (ha.0, HaveDistinctVariables-append a b ha.1 hb)

at_index : (clauses : List (List Literal)) (k : ℕ) → HaveDistinctVariables clauses → HasDistinctVariables (slice_index_or clauses k [])
at_index [] k all = tt
at_index (c ∷ clauses) zero all = all.0
at_index (c ∷ clauses) (suc k) all = at_index clauses k all.1

pub HasDistinctVariables-at : (clauses : List (List Literal)) (number : ℕ) → HaveDistinctVariables clauses → HasDistinctVariables (clause_at clauses number)
HasDistinctVariables-at clauses number = at_index clauses (number - 1)

-- each literal's variable is one of the list's
pub mentions_own : (literals : List Literal) → EachVariable (Mentions literals) literals
mentions_own [] = tt
mentions_own (x ∷ literals) = (inl refl, EachVariable-weaken (Mentions literals) (Mentions (x ∷ literals)) literals (λ var. inr) (mentions_own literals))

pub EachVariable-drop : (P : ℕ → Type 0) (n : ℕ) (literals : List Literal) → EachVariable P literals → EachVariable P (drop n literals)
EachVariable-drop P zero literals each = each
EachVariable-drop P (suc n) [] each = tt
EachVariable-drop P (suc n) (x ∷ literals) each = EachVariable-drop P n literals each.1

pub HasDistinctVariables-of_append : (a b : List Literal) → HasDistinctVariables (a ++ b) → HasDistinctVariables a × HasDistinctVariables b × EachVariable (λ var. EachVariable (λ other. other ≢ var) b) a
HasDistinctVariables-of_append [] b distinct = (tt, distinct, tt)
HasDistinctVariables-of_append (x ∷ a) b distinct =
    let rest = HasDistinctVariables-of_append a b distinct.1 in
    let own = EachVariable-of_append (λ other. other ≢ x.var) a b distinct.0 in
    ((own.0, rest.0), rest.1, (own.1, rest.2))

pub EachVariable-both : (P Q : ℕ → Type 0) (literals : List Literal) → EachVariable P literals → EachVariable Q literals → EachVariable (λ var. P var × Q var) literals
EachVariable-both P Q [] p q = tt
EachVariable-both P Q (x ∷ literals) p q = ((p.0, q.0), EachVariable-both P Q literals p.1 q.1)

pub HasDistinctVariables-negated : (literals : List Literal) → HasDistinctVariables literals → HasDistinctVariables (map negated literals)
HasDistinctVariables-negated [] distinct = tt
HasDistinctVariables-negated (x ∷ literals) distinct = (EachVariable-negated (λ var. var ≢ x.var) literals distinct.0, HasDistinctVariables-negated literals distinct.1)

pub EachVariable-at : (P : ℕ → Type 0) (literals : List Literal) (index : ℕ) (x : Literal) → EachVariable P literals → index < length literals → x ≡ get_or literals index x → P x.var
EachVariable-at P [] index x each within found = absurd (omega arith)
EachVariable-at P (y ∷ literals) zero x each within found = rw found each.0
EachVariable-at P (y ∷ literals) (suc index) x each within found = EachVariable-at P literals index x each.1 (omega arith) found

found_at : (clause : List Literal) (literal : Literal) (k : ℕ) → k < length clause → slice_index_or clause k literal ≡ literal → Has clause literal
found_at [] literal k within found = absurd (omega arith)
found_at (x ∷ clause) literal zero within found = inl found
found_at (x ∷ clause) literal (suc k) within found = inr (found_at clause literal k (omega arith) found)

-- std's word for the same
pub Has-Contains : (clause : List Literal) (literal : Literal) → Has clause literal → Contains clause literal
Has-Contains [] literal has = absurd has
Has-Contains (x ∷ clause) literal has =
    elim has [ inl e ↦ (0, omega arith, e) | inr h ↦ let c = Has-Contains clause literal h in (suc c.0, omega (arith, c.1), c.2) ]

pub Contains-Has : (clause : List Literal) (literal : Literal) → Contains clause literal → Has clause literal
Contains-Has clause literal contains = found_at clause literal contains.0 contains.1 contains.2
