-- How loops over the literals of a clause change a set.
use Rattle.std.proofs.Common.{◌≡◌, ◌≢◌, ℕ, zero, suc, ◌+◌, ◌<◌, Bool, true, false, not, List, [], ◌∷◌, ◌++◌, ◌⊎◌, inl, inr, Option, Some, None, length, get_or, take, drop, refl, sym, ap, ◌∙◌, subst, arith}
use Rattle.std.specs.Prelude.{IfSome, OnOk, Result, Ok, Err, ◌↔◌}
use Rattle.std.proofs.lemmas.List.{take_more, take-append-drop}
use Rattle.std.proofs.lemmas.Bool.{cases_eq}
use Rattle.sat_base.specs.Literal.{Literal, negated}
use Rattle.sat_base.specs.Clauses.{Has, SameLiterals, EachVariable, HasDistinctVariables}
use Rattle.sat_base.specs.LitSet.{AreDistinct, Adds, Loses, AddsAll, AddsOthers, code_of}
use Rattle.sat_base.specs.Derivation.{IsAscending}
use Rattle.sat_base.specs.Resolution.{IsOnlyClash, IsJoined, SoFar, Step, Leads}
use Rattle.sat_base.proofs.Resolving.{Alike, leads_alike}
use Rattle.sat_base.specs.Fresh.{IsConsistent, IsOpen}
use Rattle.sat_base.proofs.Clauses.{Has-append, Has-append_left, Has-append_right, EachVariable-has, EachVariable-weaken}
use Rattle.sat_base.proofs.LitSets.{same_code}

-- two literals are one or are not
pub cases_literal : (a b : Literal) → (a ≡ b) ⊎ (a ≢ b)
cases_literal a b = elim (cases_eq (code_of a) (code_of b)) [ inl e ↦ inl (same_code a b e) | inr ne ↦ inr (λ same. ne (ap code_of same)) ]

-- ---- the literals of a clause so far

pub Has-push : (xs : List Literal) (x literal : Literal) → Has (xs ++ x ∷ []) literal → Has xs literal ⊎ (x ≡ literal)
Has-push xs x literal has = elim (Has-append xs (x ∷ []) literal has) [ inl h ↦ inl h | inr h ↦ elim h [ inl e ↦ inr e | inr none ↦ absurd none ] ]

pub Has-pushed : (xs : List Literal) (x : Literal) → Has (xs ++ x ∷ []) x
Has-pushed xs x = Has-append_right xs (x ∷ []) x (inl refl)

-- one literal more of the clause
pub more_literals : (xs : List Literal) (k : ℕ) (x : Literal) → k < length xs → x ≡ get_or xs k x → take (k + 1) xs ≡ take k xs ++ x ∷ []
more_literals xs k x within is = take_more xs k x within ∙ ap (λ (y : Literal). take k xs ++ y ∷ []) (sym is)

-- a literal is in the set or is not
pub has_or_not : (xs : List Literal) (literal : Literal) → Has xs literal ⊎ (Has xs literal → ⊥)
has_or_not [] literal = inr (λ has. has)
has_or_not (x ∷ xs) literal =
    elim (cases_literal x literal) [
      | inl e ↦ inl (inl e)
      | inr ne ↦ elim (has_or_not xs literal) [ inl h ↦ inl (inr h) | inr none ↦ inr (λ has. elim has [ inl e ↦ ne e | inr h ↦ none h ]) ]
    ]

pub Has-take : (xs : List Literal) (k : ℕ) (literal : Literal) → Has (take k xs) literal → Has xs literal
Has-take xs k literal has = subst (λ (ys : List Literal). Has ys literal) (take-append-drop k xs) (Has-append_left (take k xs) (drop k xs) literal has)

pub Has-get_or : (xs : List Literal) (k : ℕ) (x : Literal) → k < length xs → x ≡ get_or xs k x → Has xs x
Has-get_or [] k x within is = absurd (omega arith)
Has-get_or (y ∷ xs) zero x within is = inl (sym is)
Has-get_or (y ∷ xs) (suc k) x within is = inr (Has-get_or xs k x (omega arith) is)

-- no literal is in a clause twice
pub before_itself : (xs : List Literal) (k : ℕ) (x : Literal) → HasDistinctVariables xs → k < length xs → x ≡ get_or xs k x → Has (take k xs) x → ⊥
before_itself [] k x distinct within is has = absurd (omega arith)
before_itself (y ∷ xs) zero x distinct within is has = has
before_itself (y ∷ xs) (suc k) x distinct within is (inl e) = EachVariable-has (λ var. var ≢ y.var) xs x distinct.0 (Has-get_or xs k x (omega arith) is) (ap (λ (l : Literal). l.var) (sym e))
before_itself (y ∷ xs) (suc k) x distinct within is (inr has) = before_itself xs k x distinct.1 (omega arith) is has

-- ---- adding

-- the set gets one literal
pub record AddsOne (old : List Literal) (x : Literal) (new : List Literal) : Type 0 where
  pub keeps : (literal : Literal) → Has old literal → Has new literal
  pub gets : Has new x
  pub parts : (literal : Literal) → Has new literal → Has old literal ⊎ (x ≡ literal)

pub AddsOne-Adds : (old : List Literal) (x : Literal) (new : List Literal) → Adds old x new → AddsOne old x new
AddsOne-Adds old x new adds =
    elim (has_or_not old x) [
      | inl has ↦ let same = adds.stays has in record {
        keeps = λ literal h. rw same h;
        gets = rw same has;
        parts = λ literal h. inl (rw same at h);
      }
      | inr none ↦ let grown = adds.grows none in record {
        keeps = λ literal h. rw grown (Has-append_left old (x ∷ []) literal h);
        gets = rw grown (Has-pushed old x);
        parts = λ literal h. Has-push old x literal (rw grown at h);
      }
    ]

pub AddsAll-more : (old before now : List Literal) (x : Literal) (next : List Literal) → AddsAll old before now → Adds now x next → AddsAll old (before ++ x ∷ []) next
AddsAll-more old before now x next all adds =
    let one = AddsOne-Adds now x next adds in
    record {
      keeps = λ literal h. one.keeps literal (all.keeps literal h);
      gets = λ literal h. elim (Has-push before x literal h) [ inl k ↦ one.keeps literal (all.gets literal k) | inr e ↦ subst (Has next) e one.gets ];
      parts = λ literal h. elim (one.parts literal h) [
        | inl k ↦ elim (all.parts literal k) [ inl g ↦ inl g | inr g ↦ inr (Has-append_left before (x ∷ []) literal g) ]
        | inr e ↦ inr (subst (Has (before ++ x ∷ [])) e (Has-pushed before x))
      ];
    }

pub AddsOthers-more : (old before now : List Literal) (pivot x : Literal) (next : List Literal) → AddsOthers old before pivot now → x ≢ pivot → Adds now x next → AddsOthers old (before ++ x ∷ []) pivot next
AddsOthers-more old before now pivot x next all other adds =
    let one = AddsOne-Adds now x next adds in
    record {
      keeps = λ literal h. one.keeps literal (all.keeps literal h);
      gets = λ literal h ne. elim (Has-push before x literal h) [ inl k ↦ one.keeps literal (all.gets literal k ne) | inr e ↦ subst (Has next) e one.gets ];
      parts = λ literal h. elim (one.parts literal h) [
        | inl k ↦ elim (all.parts literal k) [ inl g ↦ inl g | inr g ↦ inr (Has-append_left before (x ∷ []) literal g.0, g.1) ]
        | inr e ↦ inr (subst (λ (l : Literal). Has (before ++ x ∷ []) l × (l ≢ pivot)) e (Has-pushed before x, other))
      ];
    }

pub AddsOthers-skip : (old before now : List Literal) (pivot x : Literal) → AddsOthers old before pivot now → x ≡ pivot → AddsOthers old (before ++ x ∷ []) pivot now
AddsOthers-skip old before now pivot x all same =
    record {
      keeps = all.keeps;
      gets = λ literal h ne. elim (Has-push before x literal h) [ inl k ↦ all.gets literal k ne | inr e ↦ absurd (ne (sym e ∙ same)) ];
      parts = λ literal h. elim (all.parts literal h) [ inl g ↦ inl g | inr g ↦ inr (Has-append_left before (x ∷ []) literal g.0, g.1) ];
    }

-- ---- taking out

-- the literals so far were in the set, and are out of it
pub record TakenOut (old before now : List Literal) : Type 0 where
  pub parts : (literal : Literal) → Has old literal → Has before literal ⊎ Has now literal
  pub within : (literal : Literal) → Has now literal → Has old literal
  pub apart : (literal : Literal) → Has now literal → Has before literal → ⊥
  pub found : (literal : Literal) → Has before literal → Has old literal

pub TakenOut-more : (old before now : List Literal) (x : Literal) (next : List Literal) → TakenOut old before now → Has now x → Loses now x next → TakenOut old (before ++ x ∷ []) next
TakenOut-more old before now x next out has loses =
    record {
      parts = λ literal h. elim (out.parts literal h) [
        | inl k ↦ inl (Has-append_left before (x ∷ []) literal k)
        | inr k ↦ elim (cases_literal literal x) [
          | inl e ↦ inl (subst (Has (before ++ x ∷ [])) (sym e) (Has-pushed before x))
          | inr ne ↦ inr (loses.others literal ne k)
        ]
      ];
      within = λ literal h. out.within literal (loses.within literal h);
      apart = λ literal h k. elim (Has-push before x literal k) [
        | inl g ↦ out.apart literal (loses.within literal h) g
        | inr e ↦ loses.gone (subst (Has next) (sym e) h)
      ];
      found = λ literal k. elim (Has-push before x literal k) [ inl g ↦ out.found literal g | inr e ↦ subst (Has old) e (out.within x has) ];
    }

-- a literal of the clause that isn't there
pub TakenOut-lacks : (old clause now : List Literal) (k : ℕ) (x : Literal) → TakenOut old (take k clause) now → HasDistinctVariables clause → k < length clause → x ≡ get_or clause k x → (Has now x → ⊥) → SameLiterals old clause → ⊥
TakenOut-lacks old clause now k x out distinct within is none same =
    elim (out.parts x (same.1 x (Has-get_or clause k x within is))) [
      | inl h ↦ before_itself clause k x distinct within is h
      | inr h ↦ none h
    ]

pub TakenOut-all : (old clause now : List Literal) → TakenOut old clause now → (now ≡ []) ↔ SameLiterals old clause
TakenOut-all old clause [] out =
    (λ e. (λ literal h. elim (out.parts literal h) [ inl k ↦ k | inr none ↦ absurd none ], out.found), λ same. refl)
TakenOut-all old clause (x ∷ now) out =
    (λ e. absurd cc, λ same. absurd (out.apart x (inl refl) (same.0 x (out.within x (inl refl)))))

-- ---- the only clash

-- what is known of the clashes of the literals so far
pub record ClashSoFar (so_far before : List Literal) (clash : Option Literal) : Type 0 where
  pub only : (literal : Literal) → Has before literal → Has so_far (negated literal) → clash ≡ Some literal
  pub is : IfSome clash (λ first. Has before first × Has so_far (negated first))

is_more : (so_far before : List Literal) (x : Literal) (clash : Option Literal) → IfSome clash (λ first. Has before first × Has so_far (negated first)) → IfSome clash (λ first. Has (before ++ x ∷ []) first × Has so_far (negated first))
is_more so_far before x None h = tt
is_more so_far before x (Some first) h = (Has-append_left before (x ∷ []) first h.0, h.1)

pub ClashSoFar-free : (so_far before : List Literal) (clash : Option Literal) (x : Literal) → ClashSoFar so_far before clash → (Has so_far (negated x) → ⊥) → ClashSoFar so_far (before ++ x ∷ []) clash
ClashSoFar-free so_far before clash x known free =
    record {
      only = λ literal has against. elim (Has-push before x literal has) [
        | inl h ↦ known.only literal h against
        | inr e ↦ absurd (free (subst (λ (l : Literal). Has so_far (negated l)) (sym e) against))
      ];
      is = is_more so_far before x clash known.is;
    }

pub ClashSoFar-found : (so_far before : List Literal) (clash : Option Literal) (x : Literal) → ClashSoFar so_far before clash → Has so_far (negated x) → IfSome clash (λ first. first ≡ x) → ClashSoFar so_far (before ++ x ∷ []) (Some x)
ClashSoFar-found so_far before clash x known against same =
    record {
      only = λ literal has opposed. elim (Has-push before x literal has) [
        | inl h ↦ same_as clash (known.only literal h opposed) same
        | inr e ↦ ap (λ (l : Literal). Some l) e
      ];
      is = (Has-pushed before x, against);
    }
  where
    same_as : {literal : Literal} (clash : Option Literal) → clash ≡ Some literal → IfSome clash (λ first. first ≡ x) → Some x ≡ Some literal
    same_as None e same = absurd cc
    same_as (Some first) e same = rw (← same) e

pub ClashSoFar-two : (so_far hint : List Literal) (k : ℕ) (first x : Literal) → ClashSoFar so_far (take k hint) (Some first) → k < length hint → x ≡ get_or hint k x → Has so_far (negated x) → first ≢ x → (pivot : Literal) → IsOnlyClash so_far hint pivot → ⊥
ClashSoFar-two so_far hint k first x known within is against other pivot clash =
    let one = clash.only first (Has-take hint k first known.is.0) known.is.1 in
    let two = clash.only x (Has-get_or hint k x within is) against in
    other (one ∙ sym two)

-- ---- a step

pub joined_by : (so_far less hint next : List Literal) (pivot : Literal) → Loses so_far (negated pivot) less → AddsOthers less hint pivot next → IsJoined so_far hint pivot next
joined_by so_far less hint next pivot loses adds =
    record {
      parts = λ literal h. elim (adds.parts literal h) [
        | inl k ↦ inl (loses.within literal k, λ e. loses.gone (subst (Has less) e k))
        | inr k ↦ inr k
      ];
      keeps = λ literal h ne. adds.keeps literal (loses.others literal ne h);
      gets = adds.gets;
    }

signs : (p q : Bool) → (p ≡ q) ⊎ (p ≡ not q)
signs true true = inl refl
signs true false = inr refl
signs false true = inr refl
signs false false = inl refl

same_variable : (a b : Literal) → a.var ≡ b.var → (a ≡ b) ⊎ (a ≡ negated b)
same_variable a b e =
    elim (signs a.positive b.positive) [
      | inl same ↦ inl (λ i. record { var = e i; positive = same i })
      | inr other ↦ inr (λ i. record { var = e i; positive = other i })
    ]

-- neither the literal nor its negation is in the set
pub new_variable : (taken : List Literal) (pivot : Literal) → (Has taken pivot → ⊥) → (Has taken (negated pivot) → ⊥) → EachVariable (λ var. var ≢ pivot.var) taken
new_variable [] pivot none against = tt
new_variable (x ∷ taken) pivot none against = (
  λ e. elim (same_variable x pivot e) [ inl same ↦ none (inl same) | inr same ↦ against (inl same) ],
  new_variable taken pivot (λ h. none (inr h)) (λ h. against (inr h)),
)

pub open_or_not : (set : List Literal) (literal : Literal) → (Has set (negated literal) → ⊥) → (Has set literal → ⊥) → IsOpen set literal
open_or_not set literal against none = new_variable set literal none against

pub not_open : (set : List Literal) (literal other : Literal) → Has set other → other.var ≡ literal.var → IsOpen set literal → ⊥
not_open set literal other has same free = EachVariable-has (λ var. var ≢ literal.var) set other free has same

-- no step is possible where the variable of the only clash was taken out before
pub no_step : (so_far next : SoFar) (hint : List Literal) (pivot : Literal) → IsOnlyClash so_far.clause hint pivot → (IsOpen so_far.taken pivot → ⊥) → Step so_far hint next → ⊥
no_step so_far next hint pivot clash taken step =
    let same : step.pivot ≡ pivot = clash.only step.pivot step.clash.has step.clash.against in
    taken (subst (IsOpen so_far.taken) same step.new_variable)

pub step_by : (so_far : SoFar) (hint less next taken : List Literal) (pivot : Literal) → IsOnlyClash so_far.clause hint pivot → IsOpen so_far.taken pivot → Adds so_far.taken pivot taken → Loses so_far.clause (negated pivot) less → AddsOthers less hint pivot next → Step so_far hint (record { clause = next; taken = taken })
step_by so_far hint less next taken pivot clash free adds loses others =
    record {
      pivot = pivot;
      clash = clash;
      new_variable = free;
      joined = joined_by so_far.clause less hint next pivot loses others;
      counted = adds.grows (λ has. not_open so_far.taken pivot pivot has refl free);
    }

-- ---- the beginning

open_on : {E : Type 0} (r : Result (Unit {0}) E) {P Q : Type 0} → OnOk r P → (P → Q) → OnOk r Q
open_on (Ok x) h f = f h
open_on (Err e) h f = tt

pub started : {E : Type 0} (r : Result (Unit {0}) E) (first empty set taken : List Literal) → empty ≡ [] → taken ≡ [] → OnOk r (AddsAll empty first set)
    → OnOk r ((hints : List (List Literal)) (clause : List Literal) → Leads (record { clause = first; taken = [] }) hints clause ↔ Leads (record { clause = set; taken = taken }) hints clause)
started r first empty set taken none nothing adds = open_on r adds (λ all hints clause.
    let alike : Alike (record { clause = first; taken = [] }) (record { clause = set; taken = taken }) = record {
      clause = (all.gets, λ literal h. elim (all.parts literal h) [ inl k ↦ absurd (subst (λ (xs : List Literal). Has xs literal) none k) | inr k ↦ k ]);
      taken = sym nothing;
    } in
    let back : Alike (record { clause = set; taken = taken }) (record { clause = first; taken = [] }) = record {
      clause = (alike.clause.1, alike.clause.0);
      taken = nothing;
    } in (
      leads_alike (record { clause = first; taken = [] }) (record { clause = set; taken = taken }) hints clause alike,
      leads_alike (record { clause = set; taken = taken }) (record { clause = first; taken = [] }) hints clause back,
    ))

-- ---- variables

pub distinct_variables : (xs : List Literal) → AreDistinct xs → IsConsistent xs → HasDistinctVariables xs
distinct_variables [] distinct sound = tt
distinct_variables (x ∷ xs) distinct sound = (
  new_variable xs x distinct.0 (λ has. sound x (inl refl) (inr has)),
  distinct_variables xs distinct.1 (λ literal has against. sound literal (inr has) (inr against)),
)

apart_sign : (b : Bool) → b ≡ not b → ⊥
apart_sign true e = cc
apart_sign false e = cc

apart_variable : (xs : List Literal) (x literal : Literal) → EachVariable (λ var. var ≢ x.var) xs → Has xs literal → literal.var ≡ x.var → ⊥
apart_variable xs x literal each has same = EachVariable-has (λ var. var ≢ x.var) xs literal each has same

-- a clause with distinct variables has no literal beside its negation
pub IsConsistent-distinct : (xs : List Literal) → HasDistinctVariables xs → IsConsistent xs
IsConsistent-distinct [] distinct literal has against = has
IsConsistent-distinct (x ∷ xs) distinct literal (inl e) (inl f) = apart_sign literal.positive (ap (λ (l : Literal). l.positive) (sym e ∙ f))
IsConsistent-distinct (x ∷ xs) distinct literal (inl e) (inr h) = apart_variable xs x (negated literal) distinct.0 h (ap (λ (l : Literal). l.var) (sym e))
IsConsistent-distinct (x ∷ xs) distinct literal (inr h) (inl f) = apart_variable xs x literal distinct.0 h (sym (ap (λ (l : Literal). l.var) f))
IsConsistent-distinct (x ∷ xs) distinct literal (inr h) (inr k) = IsConsistent-distinct xs distinct.1 literal h k

-- a clause with ascending variables has distinct ones
pub HasDistinctVariables-ascending : (xs : List Literal) → IsAscending xs → HasDistinctVariables xs
HasDistinctVariables-ascending [] up = tt
HasDistinctVariables-ascending (x ∷ xs) up =
    (EachVariable-weaken (λ var. x.var < var) (λ var. var ≢ x.var) xs (λ var h e. omega arith) up.0, HasDistinctVariables-ascending xs up.1)
