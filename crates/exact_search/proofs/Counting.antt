-- Clauses over so many variables as numbers in base 3, and how many of them differ.
use Rattle.std.proofs.Common.{◌≡◌, ◌≢◌, ◌||◌, true≢false, ℕ, zero, suc, ◌+◌, ◌*◌, ◌<◌, ◌≤◌, ◌^◌, Bool, true, false, cond, List, [], ◌∷◌, inl, inr, length, map, refl, sym, ap, ◌∙◌, arith}
use Rattle.std.specs.List.{IsDistinct, AllByRecursion, list_any}
use Rattle.std.proofs.Math.Dec.{eqb}
use Rattle.std.proofs.Math.Nat.{pow-suc}
use Rattle.std.proofs.lemmas.Bool.{cases_lt, eqb-true, eq-eqb, ne_eqb}
use Rattle.std.proofs.lemmas.List.{length-map}
use Rattle.std.proofs.lemmas.Map.Steps.{length-le_from_distinct_below}
use Rattle.sat_base.specs.Literal.{Literal}
use Rattle.sat_base.specs.Clauses.{Has, EachVariable, SameLiterals, HasDistinctVariables}
use Rattle.sat_base.proofs.Clauses.{EachVariable-has}

-- ---- digits

abbrev pub sign_digit : Bool → ℕ
sign_digit true = 1
sign_digit false = 2

-- 0 where the variable is not in the clause, else 1 or 2 by its sign
abbrev pub digit : List Literal → ℕ → ℕ
digit [] var = 0
digit (literal ∷ rest) var = cond (eqb literal.var var) (sign_digit literal.positive) (digit rest var)

abbrev pub number : ℕ → List Literal → ℕ
number zero clause = 0
number (suc vars) clause = 3 * number vars clause + digit clause (suc vars)

digit_few : (clause : List Literal) (var : ℕ) → digit clause var ≤ 2
digit_few [] var = omega arith
digit_few (literal ∷ rest) var =
    elim (eqb literal.var var) as (λ b. cond b (sign_digit literal.positive) (digit rest var) ≤ 2) [
      | true ↦ elim literal.positive as (λ b. sign_digit b ≤ 2) [ true ↦ omega arith | false ↦ omega arith ]
      | false ↦ digit_few rest var
    ]

pub number_few : (vars : ℕ) (clause : List Literal) → number vars clause < 3 ^ vars
number_few zero clause = omega arith
number_few (suc vars) clause = omega (arith, number_few vars clause, digit_few clause (suc vars), pow-suc 3 vars)

same_digit : (vars : ℕ) (a b : List Literal) → number vars a ≡ number vars b → (var : ℕ) → 1 ≤ var → var ≤ vars → digit a var ≡ digit b var
same_digit zero a b e var low high = absurd (omega arith)
same_digit (suc vars) a b e var low high =
    let few = digit_few a (suc vars) in
    let also = digit_few b (suc vars) in
    let front : number vars a ≡ number vars b = omega (arith, e, few, also) in
    let last : digit a (suc vars) ≡ digit b (suc vars) = omega (arith, e, front) in
    elim (cases_lt vars var) [
      | inl more ↦ let here : var ≡ suc vars = omega arith in ap (digit a) here ∙ last ∙ ap (digit b) (sym here)
      | inr less ↦ same_digit vars a b front var low less
    ]

-- ---- literals by digits

digit_of : (clause : List Literal) (literal : Literal) → HasDistinctVariables clause → Has clause literal → digit clause literal.var ≡ sign_digit literal.positive
digit_of [] literal distinct none = absurd none
digit_of (first ∷ rest) literal distinct (inl same) =
    ap (λ (b : Bool). cond b (sign_digit first.positive) (digit rest literal.var)) (eq-eqb first.var literal.var (ap (λ (it : Literal). it.var) same))
    ∙ ap (λ (it : Literal). sign_digit it.positive) same
digit_of (first ∷ rest) literal distinct (inr has) =
    let other : first.var ≡ literal.var → ⊥ = λ e. EachVariable-has (λ var. var ≢ first.var) rest literal distinct.0 has (sym e) in
    ap (λ (b : Bool). cond b (sign_digit first.positive) (digit rest literal.var)) (ne_eqb first.var literal.var other) ∙ digit_of rest literal distinct.1 has

same_sign : (a b : Bool) → sign_digit a ≡ sign_digit b → a ≡ b
same_sign true true e = refl
same_sign true false e = absurd (omega (arith, e))
same_sign false true e = absurd (omega (arith, e))
same_sign false false e = refl

no_sign : (b : Bool) → 0 ≡ sign_digit b → ⊥
no_sign true e = omega (arith, e)
no_sign false e = omega (arith, e)

-- a digit that is a sign is that of a literal
literal_at : (b : Bool) (first : Literal) (rest : List Literal) (var : ℕ) (positive : Bool) → eqb first.var var ≡ b → (digit rest var ≡ sign_digit positive → Has rest (record { var = var; positive = positive }))
    → cond b (sign_digit first.positive) (digit rest var) ≡ sign_digit positive → Has (first ∷ rest) (record { var = var; positive = positive })
literal_at true first rest var positive is further e =
    inl (ap (λ (n : ℕ). record { var = n; positive = first.positive }) (eqb-true first.var var is) ∙ ap (λ (sign : Bool). record { var = var; positive = sign }) (same_sign first.positive positive e))
literal_at false first rest var positive is further e = inr (further e)

has_digit : (clause : List Literal) (var : ℕ) (positive : Bool) → digit clause var ≡ sign_digit positive → Has clause (record { var = var; positive = positive })
has_digit [] var positive e = absurd (no_sign positive e)
has_digit (first ∷ rest) var positive e = literal_at (eqb first.var var) first rest var positive refl (has_digit rest var positive) e

part_of_other : (vars : ℕ) (a b : List Literal) → HasDistinctVariables a → EachVariable (λ var. (1 ≤ var) × (var ≤ vars)) a → number vars a ≡ number vars b → (literal : Literal) → Has a literal → Has b literal
part_of_other vars a b distinct within e literal has =
    let range = EachVariable-has (λ var. (1 ≤ var) × (var ≤ vars)) a literal within has in
    has_digit b literal.var literal.positive (sym (same_digit vars a b e literal.var range.0 range.1) ∙ digit_of a literal distinct has)

-- clauses with one number have the same literals
pub same_number : (vars : ℕ) (a b : List Literal) → HasDistinctVariables a → HasDistinctVariables b → EachVariable (λ var. (1 ≤ var) × (var ≤ vars)) a → EachVariable (λ var. (1 ≤ var) × (var ≤ vars)) b
    → number vars a ≡ number vars b → SameLiterals a b
same_number vars a b distinct also within too e = (part_of_other vars a b distinct within e, part_of_other vars b a also too (sym e))

-- ---- how many

-- clauses without a variable twice, over so many variables
pub record IsOver (vars : ℕ) (clause : List Literal) : Type 0 where
  pub distinct : HasDistinctVariables clause
  pub within : EachVariable (λ var. (1 ≤ var) × (var ≤ vars)) clause

abbrev pub AreOver : ℕ → List (List Literal) → Type 0
AreOver vars [] = Unit {0}
AreOver vars (clause ∷ clauses) = IsOver vars clause × AreOver vars clauses

-- no two of the clauses have the same literals
abbrev pub Differ : List (List Literal) → Type 0
Differ [] = Unit {0}
Differ (clause ∷ clauses) = AllByRecursion (λ other. SameLiterals clause other → ⊥) clauses × Differ clauses

apart : (vars : ℕ) (clause : List Literal) (clauses : List (List Literal)) → IsOver vars clause → AreOver vars clauses → AllByRecursion (λ other. SameLiterals clause other → ⊥) clauses
    → AllByRecursion (λ n. eqb (number vars clause) n ≡ false) (map (number vars) clauses)
apart vars clause [] over all differ = tt
apart vars clause (other ∷ clauses) over all differ = (
  ne_eqb (number vars clause) (number vars other) (λ e. differ.0 (same_number vars clause other over.distinct all.0.distinct over.within all.0.within e)),
  apart vars clause clauses over all.1 differ.1,
)

distinct_numbers : (vars : ℕ) (clauses : List (List Literal)) → AreOver vars clauses → Differ clauses → IsDistinct eqb (map (number vars) clauses)
unfolding IsDistinct
distinct_numbers vars [] all differ = tt
distinct_numbers vars (clause ∷ clauses) all differ = (apart vars clause clauses all.0 all.1 differ.0, distinct_numbers vars clauses all.1 differ.1)

few_by : (b : Bool) (vars q : ℕ) (clause : List Literal) (rest : Bool) → eqb q (number vars clause) ≡ b → (rest ≡ true → q < 3 ^ vars) → (b || rest) ≡ true → q < 3 ^ vars
few_by true vars q clause rest is further e = let same = eqb-true q (number vars clause) is in omega (arith, same, number_few vars clause)
few_by false vars q clause rest is further e = further e

few_numbers : (vars : ℕ) (clauses : List (List Literal)) (q : ℕ) → list_any (eqb q) (map (number vars) clauses) ≡ true → q < 3 ^ vars
few_numbers vars [] q e = absurd (true≢false (sym e))
few_numbers vars (clause ∷ clauses) q e = few_by (eqb q (number vars clause)) vars q clause (list_any (eqb q) (map (number vars) clauses)) refl (few_numbers vars clauses q) e

-- there are at most 3^v of them
pub few_clauses : (vars : ℕ) (clauses : List (List Literal)) → AreOver vars clauses → Differ clauses → length clauses ≤ 3 ^ vars
few_clauses vars clauses all differ =
    let most = length-le_from_distinct_below (map (number vars) clauses) (3 ^ vars) (distinct_numbers vars clauses all differ) (few_numbers vars clauses) in
    omega (arith, most, length-map clauses (number vars))
