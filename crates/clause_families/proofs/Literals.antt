-- Literals of items that differ have variables that differ.
use Rattle.std.proofs.Common.{◌≡◌, ◌≢◌, ℕ, ◌+◌, ◌<◌, ◌≤◌, ◌^◌, suc, Option, Some, None, List, [], ◌∷◌, map, length, refl, ap, ◌∙◌, arith}
use Rattle.std.specs.Prelude.{IsSome}
use Rattle.std.specs.Option.{option_map_or}
use Rattle.std.specs.List.{AllByRecursion}
use Rattle.sat_base.specs.Literal.{Literal}
use Rattle.sat_base.specs.Clauses.{EachVariable, HasDistinctVariables}
use Rattle.at_most.specs.AtMost.{HasRoom}
use Rattle.step_vars.specs.declared.item.Item.{Item}
use Rattle.step_vars.specs.declared.item.Claim.{Claim}
use Rattle.step_vars.specs.declared.item.Bound.{Bound}
use Rattle.step_vars.specs.Items.{so}
use Rattle.step_vars.specs.Numbering.{Numbering, number_of, literal_of}
use Rattle.step_vars.specs.Encoding.{VarsValue, clause_of, literals_of}
use Rattle.step_vars.proofs.Inverse.{number_once}
use Rattle.clause_families.specs.Encoded.{Differ, IsEncoded, IsEncodedClause, IsEncodedBound, item_of}
use Rattle.clause_families.proofs.Every.{all_weaker}

some_is : (o : Option ℕ) → IsSome o → o ≡ Some (option_map_or (λ k. k) o 0)
some_is None h = absurd (cc)
some_is (Some k) h = refl

-- the number of an item is its literal's variable
pub number_is : (n : Numbering) (claim : Claim) → IsSome (number_of n claim.item) → number_of n claim.item ≡ Some (literal_of n claim).var
number_is n claim h = some_is (number_of n claim.item) h

variables_differ : (n : Numbering) (a b : Claim) → IsSome (number_of n a.item) → IsSome (number_of n b.item) → b.item ≢ a.item → (literal_of n b).var ≢ (literal_of n a).var
variables_differ n a b ha hb apart e =
    apart (number_once n b.item a.item (literal_of n a).var (number_is n b hb ∙ ap Some e) (number_is n a ha))

each_differs : (v : VarsValue) (a : Claim) (claims : List Claim) → IsSome (number_of v.numbering a.item) → AllByRecursion (IsEncoded v) (map item_of claims) → AllByRecursion (λ item. item ≢ a.item) (map item_of claims)
    → EachVariable (λ var. var ≢ (literal_of v.numbering a).var) (clause_of v.numbering claims)
each_differs v a [] ha all d = tt
each_differs v a (b ∷ claims) ha all d = (variables_differ v.numbering a b ha all.0.number d.0, each_differs v a claims ha all.1 d.1)

distinct_claims : (v : VarsValue) (claims : List Claim) → AllByRecursion (IsEncoded v) (map item_of claims) → Differ (map item_of claims) → HasDistinctVariables (clause_of v.numbering claims)
distinct_claims v [] all d = tt
distinct_claims v (a ∷ claims) all d = (each_differs v a claims all.0.number all.1 d.0, distinct_claims v claims all.1 d.1)

pub distinct_clause : (v : VarsValue) (claims : List Claim) → IsEncodedClause v claims → HasDistinctVariables (clause_of v.numbering claims)
distinct_clause v claims e = distinct_claims v claims e.items e.differ

-- ---- lists of items that hold

each_item : (v : VarsValue) (a : Item) (items : List Item) → IsSome (number_of v.numbering a) → AllByRecursion (IsEncoded v) items → AllByRecursion (λ item. item ≢ a) items
    → EachVariable (λ var. var ≢ (literal_of v.numbering (so a)).var) (literals_of v.numbering items)
each_item v a [] ha all d = tt
each_item v a (b ∷ items) ha all d = (variables_differ v.numbering (so a) (so b) ha all.0.number d.0, each_item v a items ha all.1 d.1)

distinct_items : (v : VarsValue) (items : List Item) → AllByRecursion (IsEncoded v) items → Differ items → HasDistinctVariables (literals_of v.numbering items)
distinct_items v [] all d = tt
distinct_items v (a ∷ items) all d = (each_item v a items all.0.number all.1 d.0, distinct_items v items all.1 d.1)

below_next : (v : VarsValue) (next : ℕ) (items : List Item) → AllByRecursion (λ item. (literal_of v.numbering (so item)).var < next) items → EachVariable (λ var. var < next) (literals_of v.numbering items)
below_next v next [] all = tt
below_next v next (a ∷ items) all = (all.0, below_next v next items all.1)

literals_long : (n : Numbering) (items : List Item) → length (literals_of n items) ≡ length items
literals_long n [] = refl
literals_long n (a ∷ items) = ap suc (literals_long n items)

-- a list has room for its helpers
pub has_room : (v : VarsValue) (it : Bound) (next count : ℕ) (lits : List Literal) → IsEncodedBound v next it → 1 ≤ next → next + count ≤ 2 ^ 31 → lits ≡ literals_of v.numbering it.items
    → HasRoom lits next count
has_room v it next count lits e one room same =
    rw same (record {
      distinct = distinct_items v it.items e.items e.differ;
      below = below_next v next it.items e.below;
      from_1 = one;
      numbers = room;
    })

pub lits_long : (n : Numbering) (it : Bound) (lits : List Literal) → lits ≡ literals_of n it.items → length lits ≡ length it.items
lits_long n it lits same = ap length same ∙ literals_long n it.items

-- a later number is free too
pub bound_later : (v : VarsValue) (first next : ℕ) (it : Bound) → first ≤ next → IsEncodedBound v first it → IsEncodedBound v next it
bound_later v first next it h e = record {
  limit = e.limit;
  items = e.items;
  differ = e.differ;
  below = all_weaker (λ item. (literal_of v.numbering (so item)).var < first) (λ item. (literal_of v.numbering (so item)).var < next) it.items (λ item small. omega (arith, small)) e.below;
}
