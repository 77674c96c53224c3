-- Lists of which at most so many items may hold, each with its helpers after those of the lists before it.
use Rattle.std.proofs.Common.{ℕ, ◌+◌, ◌^◌, ◌<◌, ◌≤◌, List, [], ◌∷◌, ◌⊎◌, length, subst, arith, inl, inr}
use Rattle.std.specs.List.{AllByRecursion}
use Rattle.sat_base.specs.Literal.{Literal}
use Rattle.sat_base.specs.Clauses.{Mentions, EachVariable, NameOnly}
use Rattle.sat_base.specs.Truth.{Valuation, true_count, Satisfies, AgreeExcept}
use Rattle.sat_base.proofs.Truth.{Satisfies-append, Satisfies-of_append}
use Rattle.sat_base.proofs.Clauses.{NameOnly-append, NameOnly-weaken}
use Rattle.sat_base.proofs.Agree.{AgreeExcept-refl, AgreeExcept-trans, true_count-below, Satisfies-below}
use Rattle.at_most.specs.AtMost.{IsNew}
use Rattle.step_vars.specs.declared.item.Item.{Item}
use Rattle.step_vars.specs.declared.item.Bound.{Bound}
use Rattle.step_vars.specs.Items.{so}
use Rattle.step_vars.specs.Numbering.{literal_of}
use Rattle.step_vars.specs.Limits.{limited, fresh_for}
use Rattle.step_vars.specs.Encoding.{VarsValue, literals_of, bounds_of, helper_count}
use Rattle.step_facts.specs.Facts.{Facts, AreBounded}
use Rattle.clause_families.specs.Encoded.{IsEncoded, IsEncodedBound, AreEncodedBounds}
use Rattle.clause_families.proofs.Literals.{bound_later}
use Rattle.step_models.specs.Models.{facts_by}
use Rattle.step_models.proofs.Truth.{Says, IsOwn, item_own}
use Rattle.step_models.proofs.Limited.{EncodingsLimit, bound_limits, counted, count_said}

-- the lists are ready from a number on, and so are their helpers from a later one on
pub record AreReadyFrom (v : VarsValue) (first next : ℕ) (bounds : List Bound) : Type 0 where
  pub each : AllByRecursion (IsEncodedBound v first) bounds
  pub later : first ≤ next
  pub from_1 : 1 ≤ first
  pub room : next + helper_count v.encoding bounds ≤ 2 ^ 31

pub ready_from : (v : VarsValue) (first : ℕ) (bounds : List Bound) → AreEncodedBounds v first bounds
    → AreReadyFrom v first first bounds
ready_from v first bounds ready =
    record { each = ready.each; later = omega arith; from_1 = ready.from_1; room = ready.room }

-- where the helpers of the first list end
abbrev after_first : VarsValue → ℕ → Bound → ℕ
after_first v next it = next + fresh_for v.encoding (length it.items) it.limit

ready_rest : (v : VarsValue) (first next : ℕ) (it : Bound) (bounds : List Bound)
    → AreReadyFrom v first next (it ∷ bounds)
    → AreReadyFrom v first (after_first v next it) bounds
ready_rest v first next it bounds ready =
    record {
      each = ready.each.1;
      later = omega (arith, ready.later);
      from_1 = ready.from_1;
      room = omega (arith, ready.room);
    }

first_ready : (v : VarsValue) (first next : ℕ) (it : Bound) (bounds : List Bound)
    → AreReadyFrom v first next (it ∷ bounds) → IsEncodedBound v next it
first_ready v first next it bounds ready = bound_later v first next it ready.later ready.each.0

-- ---- from values to facts

pub bounds_hold : EncodingsLimit
    → (v : VarsValue) (first next : ℕ) (bounds : List Bound) (values : Valuation)
    → AreReadyFrom v first next bounds
    → Satisfies values (bounds_of v.numbering v.encoding next bounds)
    → AreBounded (facts_by v.numbering values) bounds
bounds_hold all v first next [] values ready sat = tt
bounds_hold all v first next (it ∷ bounds) values ready sat =
    let here = bound_limits all v next it (first_ready v first next it bounds ready)
    (omega (arith, ready.from_1, ready.later)) (omega (arith, ready.room)) in
    let parts = Satisfies-of_append values (limited v.encoding (literals_of v.numbering it.items) it.limit next)
    (bounds_of v.numbering v.encoding (after_first v next it) bounds) sat in (
      omega (arith, here.holds values parts.0, counted v.numbering values it.items),
      bounds_hold all v first (after_first v next it) bounds values
          (ready_rest v first next it bounds ready) parts.1,
    )

-- ---- from facts to values

-- no more of the literals of each list are true than its limit
abbrev pub AreKept : VarsValue → Valuation → List Bound → Type 0
AreKept v values bounds =
    AllByRecursion (λ (it : Bound). true_count values (literals_of v.numbering it.items) ≤ it.limit) bounds

pub bounds_said : (v : VarsValue) (facts : Facts) (values : Valuation) (first : ℕ) (bounds : List Bound)
    → Says v.numbering facts values
    → AllByRecursion (IsEncodedBound v first) bounds → AreBounded facts bounds → AreKept v values bounds
bounds_said v facts values first [] says all h = tt
bounds_said v facts values first (it ∷ bounds) says all h = (
  omega (arith, h.0, count_said v facts values it.items says all.0.items),
  bounds_said v facts values first bounds says all.1 h.1,
)

items_below : (v : VarsValue) (first : ℕ) (items : List Item)
    → AllByRecursion (λ item. (literal_of v.numbering (so item)).var < first) items
    → EachVariable (λ var. var < first) (literals_of v.numbering items)
items_below v first [] all = tt
items_below v first (item ∷ items) all = (all.0, items_below v first items all.1)

kept_later : (v : VarsValue) (first next end : ℕ) (values other : Valuation) (bounds : List Bound)
    → AllByRecursion (IsEncodedBound v first) bounds
    → first ≤ next → AgreeExcept next end values other → AreKept v values bounds → AreKept v other bounds
kept_later v first next end values other [] all later agree kept = tt
kept_later v first next end values other (it ∷ bounds) all later agree kept =
    let here = bound_later v first next it later all.0 in (
      omega (
        arith,
        kept.0,
        true_count-below next end values other (literals_of v.numbering it.items) agree
            (items_below v next it.items here.below),
      ),
      kept_later v first next end values other bounds all.1 later agree kept.1,
    )

mentioned : (P : ℕ → Type 0) (literals : List Literal) (var : ℕ) → EachVariable P literals
    → Mentions literals var → P var
mentioned P [] var each h = absurd h
mentioned P (literal ∷ literals) var each (inl same) = subst P same each.0
mentioned P (literal ∷ literals) var each (inr h) = mentioned P literals var each.1 h

-- the clauses of a list name variables below its last helper
limited_below : EncodingsLimit → (v : VarsValue) (next : ℕ) (it : Bound) → IsEncodedBound v next it → 1 ≤ next
    → after_first v next it ≤ 2 ^ 31
    → NameOnly (λ var. var < after_first v next it)
    (limited v.encoding (literals_of v.numbering it.items) it.limit next)
limited_below all v next it ready one room =
    let literals = literals_of v.numbering it.items in
    let below = items_below v next it.items ready.below in
    let old_or_new : ℕ → Type 0 = λ var. Mentions literals var ⊎ IsNew next (after_first v next it) var in
    let here : (var : ℕ) → old_or_new var → var < after_first v next it = λ var h. elim h [
      | inl old ↦ let small = mentioned (λ k. k < next) literals var below old in omega arith
      | inr new ↦ new.1
    ] in
    NameOnly-weaken old_or_new (λ var. var < after_first v next it)
    (limited v.encoding literals it.limit next) here (bound_limits all v next it ready one room).names

-- the helpers can be given values that satisfy the clauses
pub record Extended (values : Valuation) (from end : ℕ) (clauses : List (List Literal)) : Type 0 where
  pub other : Valuation
  pub agree : AgreeExcept from end values other
  pub satisfies : Satisfies other clauses

pub bounds_extended : EncodingsLimit
    → (v : VarsValue) (first next : ℕ) (bounds : List Bound) (values : Valuation)
    → AreReadyFrom v first next bounds
    → AreKept v values bounds
    → Extended values next (next + helper_count v.encoding bounds)
    (bounds_of v.numbering v.encoding next bounds)
bounds_extended all v first next [] values ready kept =
    record { other = values; agree = AgreeExcept-refl next (next + 0) values; satisfies = tt }
bounds_extended all v first next (it ∷ bounds) values ready kept =
    let mid = after_first v next it in
    let end = next + helper_count v.encoding (it ∷ bounds) in
    let own = first_ready v first next it bounds ready in
    let one : 1 ≤ next = omega (arith, ready.from_1, ready.later) in
    let fits : mid ≤ 2 ^ 31 = omega (arith, ready.room) in
    let clauses = limited v.encoding (literals_of v.numbering it.items) it.limit next in
    let here = (bound_limits all v next it own one fits).extends values kept.0 in
    let rest = bounds_extended all v first mid bounds here.0 (ready_rest v first next it bounds ready)
    (kept_later v first next mid values here.0 bounds ready.each.1 ready.later here.1.0 kept.1) in
    record {
      other = rest.other;
      agree = AgreeExcept-trans next end next mid mid (mid + helper_count v.encoding bounds)
          values here.0 rest.other
          (omega arith) (omega arith) (omega arith) (omega arith) here.1.0 rest.agree;
      satisfies = Satisfies-append rest.other clauses (bounds_of v.numbering v.encoding mid bounds)
          (Satisfies-below mid (mid + helper_count v.encoding bounds) here.0 rest.other clauses rest.agree
          (limited_below all v next it own one fits) here.1.1)
          rest.satisfies;
    }

-- ---- the variables of the clauses

items_own : (v : VarsValue) (items : List Item) → AllByRecursion (IsEncoded v) items
    → EachVariable (IsOwn v.numbering v.steps) (literals_of v.numbering items)
items_own v [] all = tt
items_own v (item ∷ items) all = (item_own v (so item) all.0, items_own v items all.1)

pub bounds_own : EncodingsLimit → (v : VarsValue) (first next : ℕ) (bounds : List Bound) (P : ℕ → Type 0)
    → AreReadyFrom v first next bounds
    → ((var : ℕ) → IsOwn v.numbering v.steps var → var < first → P var)
    → ((var : ℕ) → IsNew next (next + helper_count v.encoding bounds) var → P var)
    → NameOnly P (bounds_of v.numbering v.encoding next bounds)
bounds_own all v first next [] P ready own new = tt
bounds_own all v first next (it ∷ bounds) P ready own new =
    let mid = after_first v next it in
    let literals = literals_of v.numbering it.items in
    let clauses = limited v.encoding literals it.limit next in
    let limits = bound_limits all v next it (first_ready v first next it bounds ready)
    (omega (arith, ready.from_1, ready.later)) (omega (arith, ready.room)) in
    let here : (var : ℕ) → Mentions literals var ⊎ IsNew next mid var → P var = λ var h. elim h [
      | inl old ↦ own var
          (mentioned (IsOwn v.numbering v.steps) literals var (items_own v it.items ready.each.0.items) old)
          (mentioned (λ k. k < first) literals var (items_below v first it.items ready.each.0.below) old)
      | inr helper ↦ new var (helper.0, omega (arith, helper.1))
    ] in
    NameOnly-append P clauses (bounds_of v.numbering v.encoding mid bounds)
    (NameOnly-weaken (λ var. Mentions literals var ⊎ IsNew next mid var) P clauses here limits.names)
    (bounds_own all v first mid bounds P (ready_rest v first next it bounds ready) own
    (λ var h. new var (omega (arith, h.0), omega (arith, h.1))))
