-- Resolution over few variables takes few hints.
use Rattle.std.proofs.Common.{◌≡◌, ◌≢◌, ℕ, zero, suc, ◌+◌, ◌-◌, ◌<◌, ◌≤◌, true, false, eqb, List, [], ◌∷◌, ◌++◌, inl, inr, length, map, refl, sym, ap, ◌∙◌, subst, arith, length-append}
use Rattle.std.specs.List.{IsDistinct, AllByRecursion, list_any, slice_index_or}
use Rattle.std.proofs.lemmas.List.{length-map}
use Rattle.std.proofs.lemmas.Map.Steps.{length-le_from_distinct_below}
use Rattle.std.proofs.lemmas.Bool.{ne_eqb, eqb-true, or_cases}
use Rattle.sat_base.specs.Literal.{Literal}
use Rattle.sat_base.specs.Clauses.{Has, EachVariable, NameOnly, HasDistinctVariables, clause_at}
use Rattle.sat_base.specs.Resolution.{SoFar, Leads, ResolveTo}
use Rattle.sat_base.specs.Derivation.{Line, AreDerived, AreGood}
use Rattle.sat_base.proofs.Clauses.{EachVariable-has, EachVariable-append, NameOnly-append}

-- the variable is one of so many
abbrev pub IsOneOf : ℕ → ℕ → Type 0
IsOneOf vars var = (1 ≤ var) × (var ≤ vars)

-- ---- so many different variables at most

apart_places : (x : Literal) (vars : ℕ) (taken : List Literal) → 1 ≤ x.var → EachVariable (IsOneOf vars) taken → EachVariable (λ var. var ≢ x.var) taken → AllByRecursion (λ y. eqb (x.var - 1) y ≡ false) (map (λ (literal : Literal). literal.var - 1) taken)
apart_places x vars [] some within each = tt
apart_places x vars (y ∷ taken) some within each =
    (ne_eqb (x.var - 1) (y.var - 1) (λ e. let one = within.0.0 in each.0 (omega arith)), apart_places x vars taken some within.1 each.1)

distinct_places : (vars : ℕ) (taken : List Literal) → EachVariable (IsOneOf vars) taken → HasDistinctVariables taken → IsDistinct eqb (map (λ (literal : Literal). literal.var - 1) taken)
unfolding IsDistinct
distinct_places vars [] within distinct = tt
distinct_places vars (x ∷ taken) within distinct = (apart_places x vars taken within.0.0 within.1 distinct.0, distinct_places vars taken within.1 distinct.1)

low_places : (vars q : ℕ) (taken : List Literal) → EachVariable (IsOneOf vars) taken → list_any (eqb q) (map (λ (literal : Literal). literal.var - 1) taken) ≡ true → q < vars
low_places vars q [] within found = absurd cc
low_places vars q (x ∷ taken) within found =
    elim (or_cases (eqb q (x.var - 1)) (list_any (eqb q) (map (λ (literal : Literal). literal.var - 1) taken)) found) [
      | inl h ↦ let e = eqb-true q (x.var - 1) h in let low = within.0.0 in let high = within.0.1 in omega arith
      | inr h ↦ low_places vars q taken within.1 h
    ]

few_taken : (vars : ℕ) (taken : List Literal) → EachVariable (IsOneOf vars) taken → HasDistinctVariables taken → length taken ≤ vars
few_taken vars taken within distinct =
    let few = length-le_from_distinct_below (map (λ (literal : Literal). literal.var - 1) taken) vars (distinct_places vars taken within distinct) (λ q h. low_places vars q taken within h) in
    omega (arith, length-map taken (λ (literal : Literal). literal.var - 1))

-- ---- so many hints at most

distinct_push : (taken : List Literal) (pivot : Literal) → HasDistinctVariables taken → EachVariable (λ var. var ≢ pivot.var) taken → HasDistinctVariables (taken ++ pivot ∷ [])
distinct_push [] pivot distinct other = (tt, tt)
distinct_push (x ∷ taken) pivot distinct other =
    (EachVariable-append (λ var. var ≢ x.var) taken (pivot ∷ []) distinct.0 ((λ e. other.0 (sym e)), tt), distinct_push taken pivot distinct.1 other.1)

leads_few : (vars : ℕ) (so_far : SoFar) (hints : List (List Literal)) (clause : List Literal) → Leads so_far hints clause → HasDistinctVariables so_far.taken → EachVariable (IsOneOf vars) so_far.taken → NameOnly (IsOneOf vars) hints → length so_far.taken + length hints ≤ vars
leads_few vars so_far [] clause same distinct within only = let few = few_taken vars so_far.taken within distinct in omega arith
leads_few vars so_far (hint ∷ hints) clause (next, step, rest) distinct within only =
    let pivot_is = EachVariable-has (IsOneOf vars) hint step.pivot only.0 step.clash.has in
    let distinct_next = subst HasDistinctVariables (sym step.counted) (distinct_push so_far.taken step.pivot distinct step.new_variable) in
    let within_next = subst (EachVariable (IsOneOf vars)) (sym step.counted) (EachVariable-append (IsOneOf vars) so_far.taken (step.pivot ∷ []) within (pivot_is, tt)) in
    let fewer = leads_few vars next hints clause rest distinct_next within_next only.1 in
    let grown : length next.taken ≡ length so_far.taken + 1 = ap length step.counted ∙ length-append so_far.taken (step.pivot ∷ []) in
    omega arith

resolve_few : (vars : ℕ) (hints : List (List Literal)) (clause : List Literal) → ResolveTo hints clause → NameOnly (IsOneOf vars) hints → length hints ≤ vars + 1
resolve_few vars [] clause none only = absurd none
resolve_few vars (first ∷ further) clause leads only = let few = leads_few vars (record { clause = first; taken = [] }) further clause leads tt tt only.1 in omega arith

-- ---- what is derived names no other variable

from_has : (P : ℕ → Type 0) (xs : List Literal) → ((literal : Literal) → Has xs literal → P literal.var) → EachVariable P xs
from_has P [] each = tt
from_has P (x ∷ xs) each = (each x (inl refl), from_has P xs (λ literal has. each literal (inr has)))

leads_within : (P : ℕ → Type 0) (so_far : SoFar) (hints : List (List Literal)) (clause : List Literal) → Leads so_far hints clause → EachVariable P so_far.clause → NameOnly P hints → EachVariable P clause
leads_within P so_far [] clause same within only = from_has P clause (λ literal has. EachVariable-has P so_far.clause literal within (same.1 literal has))
leads_within P so_far (hint ∷ hints) clause (next, step, rest) within only =
    leads_within P next hints clause rest
    (from_has P next.clause (λ literal has. elim (step.joined.parts literal has) [
      | inl h ↦ EachVariable-has P so_far.clause literal within h.0
      | inr h ↦ EachVariable-has P hint literal only.0 h.0
    ])) only.1

pub resolve_within : (P : ℕ → Type 0) (hints : List (List Literal)) (clause : List Literal) → ResolveTo hints clause → NameOnly P hints → EachVariable P clause
resolve_within P [] clause none only = absurd none
resolve_within P (first ∷ further) clause leads only = leads_within P (record { clause = first; taken = [] }) further clause leads only.0 only.1

within_at : (P : ℕ → Type 0) (clauses : List (List Literal)) (k : ℕ) → NameOnly P clauses → EachVariable P (slice_index_or clauses k [])
within_at P [] k only = tt
within_at P (clause ∷ clauses) zero only = only.0
within_at P (clause ∷ clauses) (suc k) only = within_at P clauses k only.1

pub named_within : (P : ℕ → Type 0) (clauses : List (List Literal)) (hints : List ℕ) → NameOnly P clauses → NameOnly P (map (clause_at clauses) hints)
named_within P clauses [] only = tt
named_within P clauses (hint ∷ hints) only = (within_at P clauses (hint - 1) only, named_within P clauses hints only)

pub AreGood-derived : (vars : ℕ) (clauses : List (List Literal)) (lines : List Line) → NameOnly (IsOneOf vars) clauses → AreDerived clauses lines → AreGood vars clauses lines
AreGood-derived vars clauses [] only derived = tt
AreGood-derived vars clauses (line ∷ lines) only derived =
    let named = named_within (IsOneOf vars) clauses line.hints only in
    let few = resolve_few vars (map (clause_at clauses) line.hints) line.clause derived.0.resolve named in
    let within = resolve_within (IsOneOf vars) (map (clause_at clauses) line.hints) line.clause derived.0.resolve named in (
      record { few = omega (arith, length-map line.hints (clause_at clauses)); derived = derived.0 },
      AreGood-derived vars (clauses ++ line.clause ∷ []) lines (NameOnly-append (IsOneOf vars) clauses (line.clause ∷ []) only (within, tt)) derived.1,
    )
