-- Working notions of private functions: what a step's clauses are made of, and what they are made for.
use Rattle.std.specs.Prelude.{◌≡◌, ℕ, ◌+◌, ◌≤◌, ◌^◌, List, ◌++◌}
use Rattle.sat_base.specs.Literal.{Literal}
use Rattle.step_rules.specs.Setting.{SettingValue}
use Rattle.step_vars.specs.declared.item.Claim.{Claim}
use Rattle.step_vars.specs.declared.item.Bound.{Bound}
use Rattle.step_vars.specs.Numbering.{sizes_at, first_helper}
use Rattle.step_vars.specs.Encoding.{VarsValue, IsSmall, vars_of, clauses_of, helper_count, place_bounds, passing_clauses, activity_bounds, order_clauses, operation_clauses}
use Rattle.clause_families.specs.Encoded.{bound_clauses}

-- the variables of a setting that is small enough
pub record AreVarsOf (vars : VarsValue) (setting : SettingValue) : Type 0 where
  pub same : vars ≡ vars_of setting vars.encoding vars.steps
  pub small : IsSmall setting vars.steps

-- step t, which is no later than the last, leads from time r
pub record IsStep (vars : VarsValue) (r t : ℕ) : Type 0 where
  pub next : t ≡ r + 1
  pub last : t ≤ vars.steps

-- the numbers of the helpers of step t are below 2^31
abbrev pub HelpersFit : VarsValue → ℕ → Type 0
HelpersFit vars t = first_helper vars.numbering t + (sizes_at vars.numbering t).helpers ≤ 2 ^ 31

-- lists, with helpers from a number on, and then clauses
abbrev pub half_of : VarsValue → ℕ → List Bound → List (List Claim) → List (List Literal)
half_of vars first bounds clauses = bound_clauses vars first bounds ++ clauses_of vars.numbering clauses

-- the two halves of a step
abbrev pub first_half : VarsValue → SettingValue → ℕ → ℕ → List (List Literal)
first_half vars setting r t =
    half_of vars (first_helper vars.numbering t) (place_bounds setting t) (passing_clauses setting r t)

abbrev pub second_first : VarsValue → SettingValue → ℕ → ℕ
second_first vars setting t =
    first_helper vars.numbering t + helper_count vars.encoding (place_bounds setting t)

abbrev pub second_half : VarsValue → SettingValue → ℕ → ℕ → List (List Literal)
second_half vars setting r t =
    half_of vars (second_first vars setting t) (activity_bounds setting t)
    (order_clauses setting r t ++ operation_clauses setting r t)
