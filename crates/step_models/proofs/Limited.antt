-- One list of which at most so many items may hold.
use Rattle.std.proofs.Common.{◌≡◌, ℕ, ◌+◌, ◌^◌, ◌≤◌, Bool, true, false, cond, List, [], ◌∷◌, length, refl, ap, ◌∙◌, subst, arith, inl, inr}
use Rattle.std.specs.Prelude.{nat_le, ◌==◌}
use Rattle.std.specs.List.{AllByRecursion}
use Rattle.std.proofs.lemmas.Bool.{cases_lt, lt-ltb, le-ltb}
use Rattle.qc_base.specs.Counting.{how_many}
use Rattle.sat_base.specs.Literal.{Literal}
use Rattle.sat_base.specs.Truth.{Valuation, true_count}
use Rattle.sat_base.proofs.Truth.{true_count-most}
use Rattle.sat_base.proofs.Agree.{AgreeExcept-refl}
use Rattle.at_most.specs.AtMost.{IsLimit, HasRoom, Limits, AlwaysLimits}
use Rattle.at_most.specs.Pairwise.{pairwise}
use Rattle.at_most.specs.Sequential.{sequential, sequential_count}
use Rattle.at_most.specs.Totalizer.{totalizer, totalizer_count}
use Rattle.step_vars.specs.declared.encoding.Encoding.{Encoding}
use Rattle.step_vars.specs.declared.encoding.Encoding.TheVariants as encodings
use Rattle.step_vars.specs.declared.item.Item.{Item}
use Rattle.step_vars.specs.declared.item.Bound.{Bound}
use Rattle.step_vars.specs.Items.{so}
use Rattle.step_vars.specs.Numbering.{Numbering}
use Rattle.step_vars.specs.Limits.{limited, fresh_for, clauses_by, count_by, IsWithin}
use Rattle.step_vars.specs.Encoding.{VarsValue, literals_of}
use Rattle.step_facts.specs.Facts.{Facts}
use Rattle.clause_families.specs.Encoded.{IsEncoded, IsEncodedBound}
use Rattle.clause_families.proofs.Literals.{has_room, lits_long}
use Rattle.step_models.specs.Models.{facts_by}
use Rattle.step_models.proofs.Truth.{Says, claim_said}

-- what the encodings do for all lists
pub record EncodingsLimit : Type 0 where
  pub pairwise : AlwaysLimits (λ n k. 0) (λ literals k next. pairwise literals k)
  pub sequential : AlwaysLimits sequential_count sequential
  pub totalizer : AlwaysLimits totalizer_count totalizer

both_branches : {A B : Type 0} (P : A → B → Type 0) (b : Bool) (x y : A) (u w : B) → P x u → P y w
    → P (cond b x y) (cond b u w)
both_branches P true x y u w h k = h
both_branches P false x y u w h k = k

-- where there is room for so many new variables, the clauses limit the literals
abbrev LimitWith : List Literal → ℕ → ℕ → ℕ → List (List Literal) → Type 0
LimitWith literals k next count clauses =
    HasRoom literals next count → Limits k literals next (next + count) clauses

limits_by : EncodingsLimit → (encoding : Encoding) (literals : List Literal) (k next : ℕ)
    → IsLimit (length literals) k
    → LimitWith literals k next (count_by encoding (length literals) k) (clauses_by encoding literals k next)
limits_by all encodings.Pairwise literals k next limit = all.pairwise literals k next limit
limits_by all encodings.Counter literals k next limit =
    both_branches (LimitWith literals k next) (nat_le (length literals) 4) 0
    (cond (k == 1) (sequential_count (length literals) k) (totalizer_count (length literals) k))
    (pairwise literals k) (cond (k == 1) (sequential literals k next) (totalizer literals k next))
    (all.pairwise literals k next limit)
    (both_branches (LimitWith literals k next) (k == 1)
    (sequential_count (length literals) k) (totalizer_count (length literals) k)
    (sequential literals k next) (totalizer literals k next)
    (all.sequential literals k next limit) (all.totalizer literals k next limit))

-- a limit that is not below the length is kept anyhow
no_clauses : (literals : List Literal) (k next end : ℕ) → length literals ≤ k → Limits k literals next end []
no_clauses literals k next end few = record {
  names = tt;
  extends = λ values most. (values, (AgreeExcept-refl next end values, tt));
  holds = λ values sat. omega (arith, true_count-most values literals);
}

pub limited_limits : EncodingsLimit → (encoding : Encoding) (literals : List Literal) (k next : ℕ)
    → IsWithin (length literals) k
    → LimitWith literals k next (fresh_for encoding (length literals) k) (limited encoding literals k next)
unfolding limited fresh_for
limited_limits all encoding literals k next within = elim (cases_lt k (length literals)) [
  | inl below ↦ rw (lt-ltb k (length literals) below)
      (limits_by all encoding literals k next (record { some = within.some; below = below; few = within.few }))
  | inr past ↦ rw (le-ltb k (length literals) past) (λ room. no_clauses literals k next (next + 0) past)
]

-- the clauses of a list of items limit them
pub bound_limits : EncodingsLimit → (v : VarsValue) (next : ℕ) (it : Bound) → IsEncodedBound v next it
    → 1 ≤ next
    → next + fresh_for v.encoding (length it.items) it.limit ≤ 2 ^ 31
    → Limits it.limit (literals_of v.numbering it.items) next
    (next + fresh_for v.encoding (length it.items) it.limit)
    (limited v.encoding (literals_of v.numbering it.items) it.limit next)
bound_limits all v next it ready one room =
    let literals = literals_of v.numbering it.items in
    let long = lits_long v.numbering it literals refl in
    let within : IsWithin (length literals) it.limit =
    record { some = ready.limit.some; few = omega (arith, long, ready.limit.few) } in
    let fits : next + fresh_for v.encoding (length literals) it.limit ≤ 2 ^ 31 = rw long room in
    let P : ℕ → Type 0 = λ m.
    Limits it.limit literals next (next + fresh_for v.encoding m it.limit)
    (limited v.encoding literals it.limit next) in
    subst P long
    (limited_limits all v.encoding literals it.limit next within
    (has_room v it next (fresh_for v.encoding (length literals) it.limit) literals ready one fits refl))

-- ---- how many hold

pub counted : (n : Numbering) (values : Valuation) (items : List Item)
    → true_count values (literals_of n items) ≡ how_many (facts_by n values) items
counted n values [] = refl
counted n values (item ∷ items) = ap (λ k. cond (facts_by n values item) 1 0 + k) (counted n values items)

pub count_said : (v : VarsValue) (facts : Facts) (values : Valuation) (items : List Item)
    → Says v.numbering facts values
    → AllByRecursion (IsEncoded v) items
    → true_count values (literals_of v.numbering items) ≡ how_many facts items
count_said v facts values [] says all = refl
count_said v facts values (item ∷ items) says all =
    ap (λ b. cond b 1 0 + true_count values (literals_of v.numbering items))
    (claim_said v.numbering facts values (so item) says all.0.number)
    ∙ ap (λ k. cond (facts item) 1 0 + k) (count_said v facts values items says all.1)
