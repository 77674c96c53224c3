-- All families and lists of a part have items of the encoding.
use Rattle.std.proofs.Common.{◌≡◌, ℕ, suc, ◌+◌, refl, arith}
use Rattle.trap_model.proofs.Within.{channels_within}
use Rattle.step_rules.specs.Setting.{SettingValue}
use Rattle.step_vars.specs.declared.encoding.Encoding.{Encoding}
use Rattle.step_vars.specs.Numbering.{sizes_at, first_helper}
use Rattle.step_vars.specs.Families.{goal_needs_all}
use Rattle.step_vars.specs.Encoding.{VarsValue, IsSmall, vars_of, numbering_of, helper_count, place_bounds, passing_clauses, activity_bounds, order_clauses, operation_clauses, start_clauses}
use Rattle.step_vars.proofs.StepHelpers.{place_helpers, activity_helpers}
use Rattle.step_facts.specs.Run.{IsSetting}
use Rattle.clause_families.specs.Encoded.{IsEncodedClause, AreEncodedClauses, AreEncodedBounds}
use Rattle.step_clauses.specs.Emission.{AreVarsOf, IsStep, second_first}
use Rattle.clause_families.proofs.Every.{all_append_back}
use Rattle.step_clauses.proofs.Ready.{places_ready, activities_ready, passing_ready, others_ready, start_ready, goal_ready}
use Rattle.step_models.proofs.Room.{helpers_fit}

-- the families and lists of step t, which leads from time r
pub record IsReady (v : VarsValue) (setting : SettingValue) (r t : ℕ) : Type 0 where
  pub places : AreEncodedBounds v (first_helper v.numbering t) (place_bounds setting t)
  pub passing : AreEncodedClauses v (passing_clauses setting r t)
  pub activities : AreEncodedBounds v (second_first v setting t) (activity_bounds setting t)
  pub orders : AreEncodedClauses v (order_clauses setting r t)
  pub operations : AreEncodedClauses v (operation_clauses setting r t)
  pub helpers : helper_count v.encoding (place_bounds setting t)
      + helper_count v.encoding (activity_bounds setting t) ≡ (sizes_at v.numbering t).helpers
  pub last : t ≡ v.steps

pub are_vars : (setting : SettingValue) (encoding : Encoding) (t : ℕ) → IsSmall setting t
    → AreVarsOf (vars_of setting encoding t) setting
unfolding vars_of
are_vars setting encoding t small = record { same = refl; small = small }

pub step_is_ready : (setting : SettingValue) (encoding : Encoding) (r : ℕ) → IsSetting setting
    → IsSmall setting (suc r)
    → IsReady (vars_of setting encoding (suc r)) setting r (suc r)
unfolding vars_of numbering_of
step_is_ready setting encoding r is small =
    let v = vars_of setting encoding (suc r) in
    let vars = are_vars setting encoding (suc r) small in
    let within = channels_within setting.trap is.trap in
    let step : IsStep v r (suc r) = record { next = omega arith; last = omega arith } in
    let room = helpers_fit setting encoding (suc r) is.trap small in
    let others = all_append_back (IsEncodedClause v) (order_clauses setting r (suc r))
    (operation_clauses setting r (suc r)) (others_ready v setting r (suc r) vars within step) in
    record {
      places = places_ready v setting r (suc r) vars is.trap within step room;
      passing = passing_ready v setting r (suc r) vars within step;
      activities = activities_ready v setting r (suc r)
          (second_first v setting (suc r)) vars is.trap within step room refl;
      orders = others.0;
      operations = others.1;
      helpers =
          omega (arith, place_helpers setting encoding (suc r), activity_helpers setting encoding (suc r));
      last = refl;
    }

pub start_is_ready : (setting : SettingValue) (encoding : Encoding) (t : ℕ) → IsSetting setting
    → IsSmall setting t
    → AreEncodedClauses (vars_of setting encoding t) (start_clauses setting)
start_is_ready setting encoding t is small =
    start_ready (vars_of setting encoding t) setting (are_vars setting encoding t small)
    (channels_within setting.trap is.trap)

pub goal_is_ready : (setting : SettingValue) (encoding : Encoding) (t : ℕ)
    → AreEncodedClauses (vars_of setting encoding t) (goal_needs_all setting t)
unfolding vars_of
goal_is_ready setting encoding t = goal_ready (vars_of setting encoding t) setting t refl (omega arith)
