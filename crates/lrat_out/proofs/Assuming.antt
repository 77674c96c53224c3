-- Assuming the literals of a clause false, one after another.
use Rattle.std.proofs.Common.{◌≡◌, ◌≢◌, ℕ, zero, suc, ◌+◌, ◌<◌, List, [], ◌∷◌, ◌++◌, length, map, get_or, take, sym, ap, ◌∙◌, subst, arith}
use Rattle.std.proofs.lemmas.List.{map-append}
use Rattle.sat_base.specs.Literal.{Literal, negated}
use Rattle.sat_base.specs.Clauses.{Has, EachVariable, HasDistinctVariables}
use Rattle.sat_base.specs.LitSet.{Adds}
use Rattle.sat_base.proofs.Clauses.{EachVariable-has, EachVariable-negated, EachVariable-append}
use Rattle.sat_base.proofs.Sets.{Has-get_or, more_literals, new_variable}

before_other : (clause : List Literal) (k : ℕ) (x : Literal) → HasDistinctVariables clause → k < length clause → x ≡ get_or clause k x → EachVariable (λ var. var ≢ x.var) (take k clause)
before_other [] k x distinct within is = absurd (omega arith)
before_other (y ∷ clause) zero x distinct within is = tt
before_other (y ∷ clause) (suc k) x distinct within is =
    (λ e. EachVariable-has (λ var. var ≢ y.var) clause x distinct.0 (Has-get_or clause k x (omega arith) is) (sym e), before_other clause k x distinct.1 (omega arith) is)

-- a variable that was assumed before is in the clause twice
pub repeats : (trues clause : List Literal) (k : ℕ) (x literal : Literal) → k < length clause → x ≡ get_or clause k x → trues ≡ map negated (take k clause) → Has trues literal → literal.var ≡ x.var → HasDistinctVariables clause → ⊥
repeats trues clause k x literal within is are has same distinct =
    let others = EachVariable-negated (λ var. var ≢ x.var) (take k clause) (before_other clause k x distinct within is) in
    EachVariable-has (λ var. var ≢ x.var) (map negated (take k clause)) literal others (subst (λ (xs : List Literal). Has xs literal) are has) same

of_negated : (P : ℕ → Type 0) (clause : List Literal) → EachVariable P (map negated clause) → EachVariable P clause
of_negated P [] each = tt
of_negated P (x ∷ clause) each = (each.0, of_negated P clause each.1)

distinct_push : (clause : List Literal) (x : Literal) → HasDistinctVariables clause → EachVariable (λ var. var ≢ x.var) clause → HasDistinctVariables (clause ++ x ∷ [])
distinct_push [] x distinct other = (tt, tt)
distinct_push (y ∷ clause) x distinct other =
    (EachVariable-append (λ var. var ≢ y.var) clause (x ∷ []) distinct.0 ((λ e. other.0 (sym e)), tt), distinct_push clause x distinct.1 other.1)

pub more_distinct : (trues clause : List Literal) (k : ℕ) (x : Literal) → k < length clause → x ≡ get_or clause k x → trues ≡ map negated (take k clause) → (Has trues x → ⊥) → (Has trues (negated x) → ⊥) → HasDistinctVariables (take k clause) → HasDistinctVariables (take (k + 1) clause)
more_distinct trues clause k x within is are none undenied distinct =
    let others = of_negated (λ var. var ≢ x.var) (take k clause) (subst (EachVariable (λ var. var ≢ x.var)) are (new_variable trues x none undenied)) in
    subst HasDistinctVariables (sym (more_literals clause k x within is)) (distinct_push (take k clause) x distinct others)

pub more_assumed : (trues next clause : List Literal) (k : ℕ) (x literal : Literal) → k < length clause → x ≡ get_or clause k x → trues ≡ map negated (take k clause) → literal ≡ negated x → (Has trues literal → ⊥) → Adds trues literal next → next ≡ map negated (take (k + 1) clause)
more_assumed trues next clause k x literal within is are denied none adds =
    adds.grows none ∙ (λ i. are i ++ denied i ∷ []) ∙ sym (map-append negated (take k clause) (x ∷ [])) ∙ ap (map negated) (sym (more_literals clause k x within is))
