-- Clauses of claims, as an assignment sees them.
use Rattle.std.proofs.Common.{◌≡◌, ℕ, ◌+◌, ◌-◌, ◌≤◌, cond, not, false, Some, List, [], ◌∷◌, map, refl, sym, ap, ◌∙◌, arith, inl, inr}
use Rattle.std.specs.Prelude.{IsSome}
use Rattle.std.specs.Option.{option_map_or}
use Rattle.std.specs.List.{AllByRecursion}
use Rattle.std.proofs.lemmas.Bool.{cases_lt}
use Rattle.sat_base.specs.Clauses.{EachVariable, NameOnly}
use Rattle.sat_base.specs.Truth.{Valuation, is_true, SatisfiesClause, Satisfies, AgreeExcept}
use Rattle.step_vars.specs.declared.item.Item.{Item}
use Rattle.step_vars.specs.declared.item.Claim.{Claim}
use Rattle.step_vars.specs.ItemOf.{item_of as item_numbered}
use Rattle.step_vars.specs.Numbering.{Numbering, number_of, literal_of, before, sizes_at, first_helper}
use Rattle.step_vars.specs.Encoding.{VarsValue, clause_of, clauses_of}
use Rattle.step_vars.proofs.Inverse.{number_to_item, number_within, number_from_1, helper_is_no_item}
use Rattle.step_facts.specs.Facts.{Facts, holds, SomeHolds, AllHold}
use Rattle.clause_families.specs.Encoded.{IsEncoded, AreEncodedClauses, item_of}
use Rattle.clause_families.proofs.Literals.{number_is}
use Rattle.step_models.specs.Models.{facts_by}

-- the assignment says of each item that has a number what the facts say
pub record Says (n : Numbering) (facts : Facts) (values : Valuation) : Type 0 where
  pub each : (item : Item) (var : ℕ) → number_of n item ≡ Some var → values var ≡ facts item

-- the variable is one of the parts 0 to t
abbrev pub IsOwn : Numbering → ℕ → ℕ → Type 0
IsOwn n t var = (1 ≤ var) × (var ≤ before n (t + 1))

-- ---- an assignment that says the facts

-- each item's variable has its fact, and all helpers are false
abbrev pub values_of : Numbering → Facts → Valuation
values_of n facts var = option_map_or facts (item_numbered n var) false

pub says_first : (n : Numbering) (facts : Facts) → Says n facts (values_of n facts)
says_first n facts = record { each = λ item var e. rw (number_to_item n item var e) refl }

-- the helpers of a part say nothing of items
pub says_kept : (n : Numbering) (facts : Facts) (t end : ℕ) (values other : Valuation) → Says n facts values
    → end ≡ first_helper n t + (sizes_at n t).helpers → AgreeExcept (first_helper n t) end values other
    → Says n facts other
says_kept n facts t end values other says same agree = record {
  each = λ item var e. elim (cases_lt var (first_helper n t)) [
    | inl below ↦ sym (agree.below var below) ∙ says.each item var e
    | inr past ↦ elim (cases_lt var end) [
      | inl helper ↦
          let place : var ≡ first_helper n t + (var - first_helper n t) = omega arith in
          absurd (helper_is_no_item n t (var - first_helper n t) item (omega arith) (e ∙ ap Some place))
      | inr above ↦ sym (agree.above var above) ∙ says.each item var e
    ]
  ];
}

pub claim_said : (n : Numbering) (facts : Facts) (values : Valuation) (claim : Claim) → Says n facts values
    → IsSome (number_of n claim.item) → is_true values (literal_of n claim) ≡ holds facts claim
claim_said n facts values claim says has =
    ap (λ b. cond claim.positive b (not b))
    (says.each claim.item (literal_of n claim).var (number_is n claim has))

-- ---- from facts to values

some_true : (v : VarsValue) (facts : Facts) (values : Valuation) (claims : List Claim)
    → Says v.numbering facts values
    → AllByRecursion (IsEncoded v) (map item_of claims) → SomeHolds facts claims
    → SatisfiesClause values (clause_of v.numbering claims)
some_true v facts values [] says all h = h
some_true v facts values (claim ∷ claims) says all (inl h) =
    inl (claim_said v.numbering facts values claim says all.0.number ∙ h)
some_true v facts values (claim ∷ claims) says all (inr h) =
    inr (some_true v facts values claims says all.1 h)

pub clauses_satisfied : (v : VarsValue) (facts : Facts) (values : Valuation) (clauses : List (List Claim))
    → Says v.numbering facts values
    → AreEncodedClauses v clauses → AllHold facts clauses → Satisfies values (clauses_of v.numbering clauses)
clauses_satisfied v facts values [] says all h = tt
clauses_satisfied v facts values (clause ∷ clauses) says all h =
    (some_true v facts values clause says all.0.items h.0, clauses_satisfied v facts values clauses says all.1 h.1)

-- ---- from values to facts

some_holds : (n : Numbering) (values : Valuation) (claims : List Claim)
    → SatisfiesClause values (clause_of n claims)
    → SomeHolds (facts_by n values) claims
some_holds n values [] h = h
some_holds n values (claim ∷ claims) (inl h) = inl h
some_holds n values (claim ∷ claims) (inr h) = inr (some_holds n values claims h)

pub clauses_hold : (n : Numbering) (values : Valuation) (clauses : List (List Claim))
    → Satisfies values (clauses_of n clauses)
    → AllHold (facts_by n values) clauses
clauses_hold n values [] h = tt
clauses_hold n values (clause ∷ clauses) h =
    (some_holds n values clause h.0, clauses_hold n values clauses h.1)

-- ---- the variables of clauses

pub item_own : (v : VarsValue) (claim : Claim) → IsEncoded v claim.item
    → IsOwn v.numbering v.steps (literal_of v.numbering claim).var
item_own v claim h =
    let number = number_is v.numbering claim h.number in (
      number_from_1 v.numbering claim.item (literal_of v.numbering claim).var number,
      number_within v.numbering claim.item (literal_of v.numbering claim).var v.steps number h.time,
    )

clause_own : (v : VarsValue) (claims : List Claim) → AllByRecursion (IsEncoded v) (map item_of claims)
    → EachVariable (IsOwn v.numbering v.steps) (clause_of v.numbering claims)
clause_own v [] all = tt
clause_own v (claim ∷ claims) all = (item_own v claim all.0, clause_own v claims all.1)

pub clauses_own : (v : VarsValue) (clauses : List (List Claim)) → AreEncodedClauses v clauses
    → NameOnly (IsOwn v.numbering v.steps) (clauses_of v.numbering clauses)
clauses_own v [] all = tt
clauses_own v (clause ∷ clauses) all = (clause_own v clause all.0.items, clauses_own v clauses all.1)
