-- What clauses and lists need of their items to be added as literals, and what is added.
use Rattle.std.specs.Prelude.{◌≢◌, ℕ, ◌+◌, ◌<◌, ◌≤◌, ◌^◌, IsSome, List, [], ◌∷◌, length, map}
use Rattle.std.specs.List.{AllByRecursion}
use Rattle.sat_base.specs.Literal.{Literal}
use Rattle.step_vars.specs.declared.item.Item.{Item}
use Rattle.step_vars.specs.declared.item.Claim.{Claim}
use Rattle.step_vars.specs.declared.item.Bound.{Bound}
use Rattle.step_vars.specs.Items.{time_of, so}
use Rattle.step_vars.specs.Numbering.{number_of, literal_of}
use Rattle.step_vars.specs.Limits.{IsWithin}
use Rattle.step_vars.specs.Encoding.{VarsValue, bounds_of, helper_count}

-- no member is there twice
abbrev pub Differ : {X : Type 0} → List X → Type 0
Differ [] = Unit {0}
Differ (x ∷ xs) = AllByRecursion (λ y. y ≢ x) xs × Differ xs

abbrev pub item_of : Claim → Item
item_of claim = claim.item

-- the item has a number, and speaks of no time after the last
pub record IsEncoded (vars : VarsValue) (item : Item) : Type 0 where
  pub time : time_of item ≤ vars.steps
  pub number : IsSome (number_of vars.numbering item)

-- each item of the clause has a number, and none is there twice
pub record IsEncodedClause (vars : VarsValue) (claims : List Claim) : Type 0 where
  pub items : AllByRecursion (IsEncoded vars) (map item_of claims)
  pub differ : Differ (map item_of claims)

abbrev pub AreEncodedClauses : VarsValue → List (List Claim) → Type 0
AreEncodedClauses vars clauses = AllByRecursion (IsEncodedClause vars) clauses

-- each item of the list has a number below the first helper, and none is there twice; the limit is at least 1
pub record IsEncodedBound (vars : VarsValue) (first : ℕ) (it : Bound) : Type 0 where
  pub limit : IsWithin (length it.items) it.limit
  pub items : AllByRecursion (IsEncoded vars) it.items
  pub differ : Differ it.items
  pub below : AllByRecursion (λ item. (literal_of vars.numbering (so item)).var < first) it.items

-- and there are numbers for the helpers of all lists
pub record AreEncodedBounds (vars : VarsValue) (first : ℕ) (bounds : List Bound) : Type 0 where
  pub each : AllByRecursion (IsEncodedBound vars first) bounds
  pub from_1 : 1 ≤ first
  pub room : first + helper_count vars.encoding bounds ≤ 2 ^ 31

-- the clauses of lists, with helpers from a number on
abbrev pub bound_clauses : VarsValue → ℕ → List Bound → List (List Literal)
bound_clauses vars first bounds = bounds_of vars.numbering vars.encoding first bounds
