-- How clauses stand, and what it says of their literals.
use Rattle.std.proofs.Common.{◌≡◌, ◌≢◌, ℕ, ◌+◌, ◌<◌, ◌≤◌, Bool, true, false, cond, eqb, List, [], ◌∷◌, inl, inr, length, get_or, drop, refl, sym, ap, ◌∙◌, subst}
use Rattle.std.specs.Prelude.{IsTrue}
use Rattle.std.proofs.lemmas.List.{drop_more, drop_all}
use Rattle.std.proofs.lemmas.Bool.{cond-true, cond-false, eqb-true, eq-eqb, both_ways, false_from_ne_true}
use Rattle.sat_base.specs.Literal.{Literal, negated}
use Rattle.sat_base.specs.Clauses.{Has, EachVariable, HasDistinctVariables}
use Rattle.sat_base.specs.LitSet.{code_of}
use Rattle.sat_base.specs.Fresh.{IsOpen, HasTwoOpen}
use Rattle.sat_base.proofs.LitSets.{same_code}
use Rattle.sat_base.proofs.Sets.{open_or_not}
use Rattle.sat_base.proofs.Clauses.{EachVariable-has}
use Rattle.lrat_out.specs.declared.standing.Standing.{Standing}
use Rattle.lrat_out.specs.declared.standing.Standing.TheVariants.{Holds, Fails, OneOpen, MoreOpen}
use Rattle.lrat_out.specs.Right.{AreDenied, IsUnit}
use Rattle.lrat_out.specs.Standing.{is_in, opened, standing, merged}

-- ---- literals of a list

pub is_in-has : (xs : List Literal) (literal : Literal) → IsTrue (is_in xs literal) → Has xs literal
is_in-has [] literal h = cc
is_in-has (x ∷ xs) literal h = by_code (eqb (code_of x) (code_of literal)) refl (is_in-has xs literal) h
  where
    by_code : (b : Bool) → eqb (code_of x) (code_of literal) ≡ b → (IsTrue (is_in xs literal) → Has xs literal) → IsTrue (cond b true (is_in xs literal)) → Has (x ∷ xs) literal
    by_code true e rest h = inl (same_code x literal (eqb-true _ _ e))
    by_code false e rest h = inr (rest h)

pub has-is_in : (xs : List Literal) (literal : Literal) → Has xs literal → IsTrue (is_in xs literal)
has-is_in [] literal has = absurd has
has-is_in (x ∷ xs) literal (inl e) = cond-true _ true (is_in xs literal) (eq-eqb _ _ (ap code_of e))
has-is_in (x ∷ xs) literal (inr has) = by_code (eqb (code_of x) (code_of literal)) (has-is_in xs literal has)
  where
    by_code : (b : Bool) → IsTrue (is_in xs literal) → IsTrue (cond b true (is_in xs literal))
    by_code true rest = refl
    by_code false rest = rest

pub not_is_in : (xs : List Literal) (literal : Literal) → (Has xs literal → ⊥) → is_in xs literal ≡ false
not_is_in xs literal none = false_from_ne_true (is_in xs literal) (λ h. none (is_in-has xs literal h))

-- ---- the literals of a clause so far

pub merged_assoc : (a b : Standing) (literal : Literal) → merged (merged a (OneOpen literal)) b ≡ merged a (opened literal b)
merged_assoc Holds b literal = refl
merged_assoc Fails b literal = refl
merged_assoc (OneOpen other) Holds literal = refl
merged_assoc (OneOpen other) Fails literal = refl
merged_assoc (OneOpen other) (OneOpen third) literal = refl
merged_assoc (OneOpen other) MoreOpen literal = refl
merged_assoc MoreOpen Holds literal = refl
merged_assoc MoreOpen Fails literal = refl
merged_assoc MoreOpen (OneOpen third) literal = refl
merged_assoc MoreOpen MoreOpen literal = refl

merged_holds : (a : Standing) → merged a Holds ≡ Holds
merged_holds Holds = refl
merged_holds Fails = refl
merged_holds (OneOpen literal) = refl
merged_holds MoreOpen = refl

merged_fails : (a : Standing) → merged a Fails ≡ a
merged_fails Holds = refl
merged_fails Fails = refl
merged_fails (OneOpen literal) = refl
merged_fails MoreOpen = refl

-- the literals so far and the others stand as the clause does
abbrev pub StandsSoFar : List Literal → List Literal → ℕ → Standing → Type 0
StandsSoFar trues clause k so_far = merged so_far (standing trues (drop k clause)) ≡ standing trues clause

next : (trues clause : List Literal) (k : ℕ) (x : Literal) → k < length clause → x ≡ get_or clause k x → standing trues (drop k clause) ≡ standing trues (x ∷ drop (k + 1) clause)
next trues clause k x within is = ap (standing trues) (drop_more clause k x within ∙ ap (λ (y : Literal). y ∷ drop (k + 1) clause) (sym is))

pub finds_true : (trues clause : List Literal) (k : ℕ) (x : Literal) (so_far : Standing) → k < length clause → x ≡ get_or clause k x → StandsSoFar trues clause k so_far → Has trues x → Holds ≡ standing trues clause
finds_true trues clause k x so_far within is known has =
    let here : standing trues (x ∷ drop (k + 1) clause) ≡ Holds = cond-true (is_in trues x) Holds _ (has-is_in trues x has) in
    sym (merged_holds so_far) ∙ ap (merged so_far) (sym (next trues clause k x within is ∙ here)) ∙ known

pub finds_false : (trues clause : List Literal) (k : ℕ) (x : Literal) (so_far : Standing) → k < length clause → x ≡ get_or clause k x → StandsSoFar trues clause k so_far → (Has trues x → ⊥) → Has trues (negated x) → StandsSoFar trues clause (k + 1) so_far
finds_false trues clause k x so_far within is known none denied =
    let rest = standing trues (drop (k + 1) clause) in
    let here : standing trues (x ∷ drop (k + 1) clause) ≡ rest = cond-false (is_in trues x) Holds _ (not_is_in trues x none) ∙ cond-true (is_in trues (negated x)) rest (opened x rest) (has-is_in trues (negated x) denied) in
    ap (merged so_far) (sym (next trues clause k x within is ∙ here)) ∙ known

pub finds_open : (trues clause : List Literal) (k : ℕ) (x : Literal) (so_far : Standing) → k < length clause → x ≡ get_or clause k x → StandsSoFar trues clause k so_far → (Has trues x → ⊥) → (Has trues (negated x) → ⊥) → StandsSoFar trues clause (k + 1) (merged so_far (OneOpen x))
finds_open trues clause k x so_far within is known none undenied =
    let rest = standing trues (drop (k + 1) clause) in
    let here : standing trues (x ∷ drop (k + 1) clause) ≡ opened x rest = cond-false (is_in trues x) Holds _ (not_is_in trues x none) ∙ cond-false (is_in trues (negated x)) rest (opened x rest) (not_is_in trues (negated x) undenied) in
    merged_assoc so_far rest x ∙ ap (merged so_far) (sym (next trues clause k x within is ∙ here)) ∙ known

pub at_end : (trues clause : List Literal) (k : ℕ) (so_far : Standing) → length clause ≤ k → StandsSoFar trues clause k so_far → so_far ≡ standing trues clause
at_end trues clause k so_far over known =
    sym (merged_fails so_far) ∙ ap (λ (xs : List Literal). merged so_far (standing trues xs)) (sym (drop_all k clause over)) ∙ known

-- ---- what it says of the literals

-- a literal is true, all are denied, all but an open one are, or two are open
abbrev pub Stands : List Literal → List Literal → Standing → Type 0
Stands trues clause Holds = (literal : Literal) × (Has clause literal × Has trues literal)
Stands trues clause Fails = AreDenied trues clause
Stands trues clause (OneOpen unit) = IsUnit trues clause unit
Stands trues clause MoreOpen = HasTwoOpen trues clause

one_denied : (trues rest : List Literal) (x : Literal) (s : Standing) → Has trues (negated x) → Stands trues rest s → Stands trues (x ∷ rest) s
one_denied trues rest x Holds denied (literal, (has, holds)) = (literal, (inr has, holds))
one_denied trues rest x Fails denied others =
    λ literal has. elim has [ inl e ↦ subst (λ (l : Literal). Has trues (negated l)) e denied | inr h ↦ others literal h ]
one_denied trues rest x (OneOpen unit) denied is = record {
  has = inr is.has;
  unassigned = is.unassigned;
  others = λ literal has ne. elim has [ inl e ↦ subst (λ (l : Literal). Has trues (negated l)) e denied | inr h ↦ is.others literal h ne ];
}
one_denied trues rest x MoreOpen denied two = record {
  first = two.first;
  second = two.second;
  different = two.different;
  has_first = inr two.has_first;
  has_second = inr two.has_second;
  first_open = two.first_open;
  second_open = two.second_open;
}

one_open : (trues rest : List Literal) (x : Literal) (s : Standing) → IsOpen trues x → EachVariable (λ var. var ≢ x.var) rest → Stands trues rest s → Stands trues (x ∷ rest) (opened x s)
one_open trues rest x Holds free other (literal, (has, holds)) = (literal, (inr has, holds))
one_open trues rest x Fails free other denied = record {
  has = inl refl;
  unassigned = free;
  others = λ literal has ne. elim has [ inl e ↦ absurd (ne (sym e)) | inr h ↦ denied literal h ];
}
one_open trues rest x (OneOpen unit) free other is = record {
  first = x;
  second = unit;
  different = λ e. EachVariable-has (λ var. var ≢ x.var) rest unit other is.has (ap (λ (l : Literal). l.var) (sym e));
  has_first = inl refl;
  has_second = inr is.has;
  first_open = free;
  second_open = is.unassigned;
}
one_open trues rest x MoreOpen free other two = record {
  first = two.first;
  second = two.second;
  different = two.different;
  has_first = inr two.has_first;
  has_second = inr two.has_second;
  first_open = two.first_open;
  second_open = two.second_open;
}

pub stands : (trues clause : List Literal) → HasDistinctVariables clause → Stands trues clause (standing trues clause)
stands trues [] distinct = λ literal has. absurd has
stands trues (x ∷ rest) distinct = by_tests (is_in trues x) (is_in trues (negated x)) refl refl (stands trues rest distinct.1)
  where
    by_tests : (a b : Bool) → is_in trues x ≡ a → is_in trues (negated x) ≡ b → Stands trues rest (standing trues rest) → Stands trues (x ∷ rest) (cond a Holds (cond b (standing trues rest) (opened x (standing trues rest))))
    by_tests true b e f others = (x, (inl refl, is_in-has trues x e))
    by_tests false true e f others = one_denied trues rest x (standing trues rest) (is_in-has trues (negated x) f) others
    by_tests false false e f others =
        let free = open_or_not trues x (λ has. both_ways _ f (has-is_in trues (negated x) has)) (λ has. both_ways _ e (has-is_in trues x has)) in
        one_open trues rest x (standing trues rest) free distinct.0 others
