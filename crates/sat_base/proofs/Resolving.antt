-- What steps of resolution keep, and that they are determined.
use Rattle.std.proofs.Common.{◌≡◌, ◌≢◌, Bool, true, false, not, List, [], ◌∷◌, ◌++◌, inl, inr, refl, sym, ap, ◌∙◌, subst}
use Rattle.std.specs.Prelude.{IsTrue, ◌↔◌}
use Rattle.sat_base.specs.Literal.{Literal, negated}
use Rattle.sat_base.specs.Clauses.{Has, SameLiterals, EachVariable}
use Rattle.sat_base.specs.Truth.{Valuation, is_true, SatisfiesClause, Satisfies}
use Rattle.sat_base.specs.Resolution.{IsOnlyClash, IsJoined, SoFar, Step, Leads, ResolveTo}
use Rattle.sat_base.proofs.Truth.{is_true-negated, SatisfiesClause-has, some_true, SatisfiesClause-subclause}

pub negated-negated : (literal : Literal) → negated (negated literal) ≡ literal
negated-negated literal = ap (λ (positive : Bool). record { var = literal.var; positive = positive }) (twice literal.positive)
  where
    twice : (b : Bool) → not (not b) ≡ b
    twice true = refl
    twice false = refl

-- ---- truth

not_both : (b : Bool) → IsTrue b → IsTrue (not b) → ⊥
not_both true on off = cc
not_both false on off = cc

-- a literal and its negation are not both true
pub not_both_signs : (values : Valuation) (literal : Literal) → IsTrue (is_true values literal) → IsTrue (is_true values (negated literal)) → ⊥
not_both_signs values literal on off = not_both (is_true values literal) on (sym (is_true-negated values literal) ∙ off)

-- a literal that is true where the pivot is, is not the pivot's negation
apart : (values : Valuation) (pivot literal : Literal) → IsTrue (is_true values pivot) → IsTrue (is_true values literal) → literal ≢ negated pivot
apart values pivot literal on holds same = not_both_signs values pivot on (ap (is_true values) (sym same) ∙ holds)

-- the joined clause is true where both are
joined_true : (values : Valuation) (so_far hint next : List Literal) (pivot : Literal) → IsJoined so_far hint pivot next → SatisfiesClause values so_far → SatisfiesClause values hint → (b : Bool) → is_true values pivot ≡ b → SatisfiesClause values next
joined_true values so_far hint next pivot joined before with_hint true is =
    let found = some_true values so_far before in
    SatisfiesClause-has values next found.0 (joined.keeps found.0 found.1.0 (apart values pivot found.0 is found.1.1)) found.1.1
joined_true values so_far hint next pivot joined before with_hint false is =
    let found = some_true values hint with_hint in
    let other : found.0 ≢ pivot = λ same. not_both false (sym is ∙ ap (is_true values) (sym same) ∙ found.1.1) refl in
    SatisfiesClause-has values next found.0 (joined.gets found.0 found.1.0 other) found.1.1

pub leads_follow : (values : Valuation) (so_far : SoFar) (hints : List (List Literal)) (clause : List Literal) → Leads so_far hints clause → SatisfiesClause values so_far.clause → Satisfies values hints → SatisfiesClause values clause
leads_follow values so_far [] clause same before all = SatisfiesClause-subclause values so_far.clause clause same.0 before
leads_follow values so_far (hint ∷ hints) clause (next, step, rest) before all =
    leads_follow values next hints clause rest (joined_true values so_far.clause hint next.clause step.pivot step.joined before all.0 (is_true values step.pivot) refl) all.1

pub follows : (values : Valuation) (hints : List (List Literal)) (clause : List Literal) → ResolveTo hints clause → Satisfies values hints → SatisfiesClause values clause
follows values [] clause h all = absurd h
follows values (first ∷ further) clause leads all = leads_follow values (record { clause = first; taken = [] }) further clause leads all.0 all.1

-- ---- one result

SameLiterals-trans : (a b c : List Literal) → SameLiterals a b → SameLiterals b c → SameLiterals a c
SameLiterals-trans a b c ab bc = (λ l h. bc.0 l (ab.0 l h), λ l h. ab.1 l (bc.1 l h))

-- the same clash, seen in the same set
same_pivot : (so_far other hint : List Literal) (pivot second : Literal) → SameLiterals so_far other → IsOnlyClash so_far hint pivot → IsOnlyClash other hint second → pivot ≡ second
same_pivot so_far other hint pivot second same clash again = again.only pivot clash.has (same.0 (negated pivot) clash.against)

joined_within : (so_far other hint next again : List Literal) (pivot second : Literal) → SameLiterals so_far other → pivot ≡ second → IsJoined so_far hint pivot next → IsJoined other hint second again → (literal : Literal) → Has next literal → Has again literal
joined_within so_far other hint next again pivot second same e joined second_joined literal has =
    elim (joined.parts literal has) [
      | inl h ↦ second_joined.keeps literal (same.0 literal h.0) (λ is. h.1 (is ∙ ap negated (sym e)))
      | inr h ↦ second_joined.gets literal h.0 (λ is. h.1 (is ∙ sym e))
    ]

-- two steps from the same set with the same hint lead to the same set
pub same_joined : (so_far other hint next again : List Literal) (pivot second : Literal) → SameLiterals so_far other → IsOnlyClash so_far hint pivot → IsOnlyClash other hint second → IsJoined so_far hint pivot next → IsJoined other hint second again → SameLiterals next again
same_joined so_far other hint next again pivot second same clash again_clash joined again_joined =
    let e = same_pivot so_far other hint pivot second same clash again_clash in (
      joined_within so_far other hint next again pivot second same e joined again_joined,
      joined_within other so_far hint again next second pivot (same.1, same.0) (sym e) again_joined joined,
    )

-- both hold the same set, and took out the same pivots
pub record Alike (so_far other : SoFar) : Type 0 where
  pub clause : SameLiterals so_far.clause other.clause
  pub taken : so_far.taken ≡ other.taken

alike_next : (so_far other next again : SoFar) (hint : List Literal) → Alike so_far other → Step so_far hint next → Step other hint again → Alike next again
alike_next so_far other next again hint alike step second =
    let e = same_pivot so_far.clause other.clause hint step.pivot second.pivot alike.clause step.clash second.clash in
    record {
      clause = same_joined so_far.clause other.clause hint next.clause again.clause step.pivot second.pivot alike.clause step.clash second.clash step.joined second.joined;
      taken = step.counted ∙ rw (alike.taken, e) (sym second.counted);
    }

pub one_end : (so_far other : SoFar) (hints : List (List Literal)) (clause again : List Literal) → Alike so_far other → Leads so_far hints clause → Leads other hints again → SameLiterals clause again
one_end so_far other [] clause again alike same second = SameLiterals-trans clause so_far.clause again (same.1, same.0) (SameLiterals-trans so_far.clause other.clause again alike.clause second)
one_end so_far other (hint ∷ hints) clause again alike (next, step, rest) (more, second, others) =
    one_end next more hints clause again (alike_next so_far other next more hint alike step second) rest others

pub one_result : (hints : List (List Literal)) (clause other : List Literal) → ResolveTo hints clause → ResolveTo hints other → SameLiterals clause other
one_result [] clause other h k = absurd h
one_result (first ∷ further) clause other h k =
    one_end (record { clause = first; taken = [] }) (record { clause = first; taken = [] }) further clause other (record { clause = (λ l h. h, λ l h. h); taken = refl }) h k

-- ---- a step that was made

-- from sets that are alike the same can be reached
pub leads_alike : (so_far other : SoFar) (hints : List (List Literal)) (clause : List Literal) → Alike so_far other → Leads so_far hints clause → Leads other hints clause
leads_alike so_far other [] clause alike same = SameLiterals-trans other.clause so_far.clause clause (alike.clause.1, alike.clause.0) same
leads_alike so_far other (hint ∷ hints) clause alike (next, step, rest) =
    let clash : IsOnlyClash other.clause hint step.pivot = record {
      has = step.clash.has;
      against = alike.clause.0 (negated step.pivot) step.clash.against;
      only = λ l in_hint against. step.clash.only l in_hint (alike.clause.1 (negated l) against);
    } in
    let joined : IsJoined other.clause hint step.pivot next.clause = record {
      parts = λ l has. elim (step.joined.parts l has) [ inl h ↦ inl (alike.clause.0 l h.0, h.1) | inr h ↦ inr h ];
      keeps = λ l has. step.joined.keeps l (alike.clause.1 l has);
      gets = step.joined.gets;
    } in (
      next,
      record {
        pivot = step.pivot;
        clash = clash;
        new_variable = subst (EachVariable (λ var. var ≢ step.pivot.var)) alike.taken step.new_variable;
        joined = joined;
        counted = step.counted ∙ ap (λ (taken : List Literal). taken ++ step.pivot ∷ []) alike.taken;
      },
      rest,
    )

-- after a step that was made, the same is reached as from before it
pub leads_after : (so_far next : SoFar) (hint : List Literal) (hints : List (List Literal)) (clause : List Literal) → Step so_far hint next → Leads so_far (hint ∷ hints) clause ↔ Leads next hints clause
leads_after so_far next hint hints clause step = (
  λ (more, second, rest). leads_alike more next hints clause (alike_next so_far so_far more next hint (record { clause = (λ l h. h, λ l h. h); taken = refl }) second step) rest,
  λ rest. (next, step, rest),
)
