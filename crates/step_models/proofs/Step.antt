-- The part of a step: its models and its facts.
use Rattle.std.proofs.Common.{◌≡◌, ℕ, ◌+◌, ◌<◌, ◌≤◌, List, ◌++◌, refl, subst, arith}
use Rattle.sat_base.specs.Literal.{Literal}
use Rattle.sat_base.specs.Clauses.{NameOnly}
use Rattle.sat_base.specs.Truth.{Valuation, Satisfies}
use Rattle.sat_base.proofs.Truth.{Satisfies-append, Satisfies-of_append}
use Rattle.sat_base.proofs.Clauses.{NameOnly-append}
use Rattle.sat_base.proofs.Agree.{AgreeExcept-refl, AgreeExcept-trans, Satisfies-below}
use Rattle.step_rules.specs.Setting.{SettingValue}
use Rattle.step_vars.specs.Numbering.{before, sizes_at, first_helper}
use Rattle.step_vars.specs.Encoding.{VarsValue, clauses_of, bounds_of, helper_count, step_part, place_bounds, passing_clauses, activity_bounds, order_clauses, operation_clauses}
use Rattle.step_facts.specs.Facts.{Facts}
use Rattle.step_facts.specs.Run.{StepHolds}
use Rattle.step_clauses.specs.Emission.{second_first}
use Rattle.step_models.specs.Models.{facts_by}
use Rattle.step_models.proofs.Truth.{Says, IsOwn, says_kept, clauses_satisfied, clauses_hold, clauses_own}
use Rattle.step_models.proofs.Limited.{EncodingsLimit}
use Rattle.step_models.proofs.Bounds.{Extended, ready_from, bounds_hold, bounds_said, bounds_extended, bounds_own}
use Rattle.step_models.proofs.Room.{helpers_within}
use Rattle.step_models.proofs.Ready.{IsReady}

-- the clauses of a step, kind by kind
abbrev place_limits : VarsValue → SettingValue → ℕ → List (List Literal)
place_limits v setting t =
    bounds_of v.numbering v.encoding (first_helper v.numbering t) (place_bounds setting t)

abbrev activity_limits : VarsValue → SettingValue → ℕ → List (List Literal)
activity_limits v setting t =
    bounds_of v.numbering v.encoding (second_first v setting t) (activity_bounds setting t)

pub step_holds : EncodingsLimit → (v : VarsValue) (setting : SettingValue) (r t : ℕ) (values : Valuation)
    → IsReady v setting r t
    → Satisfies values (step_part v.numbering setting v.encoding r t)
    → StepHolds setting (facts_by v.numbering values) r t
step_holds all v setting r t values ready sat =
    let n = v.numbering in
    let first = first_helper n t in
    let second = second_first v setting t in
    let passing = clauses_of n (passing_clauses setting r t) in
    let orders = clauses_of n (order_clauses setting r t) in
    let operations = clauses_of n (operation_clauses setting r t) in
    let in_places = place_limits v setting t in
    let in_activities = activity_limits v setting t in
    let last = Satisfies-of_append values (in_places ++ passing ++ in_activities ++ orders) operations sat in
    let fourth = Satisfies-of_append values (in_places ++ passing ++ in_activities) orders last.0 in
    let third = Satisfies-of_append values (in_places ++ passing) in_activities fourth.0 in
    let front = Satisfies-of_append values in_places passing third.0 in
    record {
      places = bounds_hold all v first first (place_bounds setting t) values
          (ready_from v first (place_bounds setting t) ready.places) front.0;
      passing = clauses_hold n values (passing_clauses setting r t) front.1;
      activities = bounds_hold all v second second (activity_bounds setting t) values
          (ready_from v second (activity_bounds setting t) ready.activities) third.1;
      orders = clauses_hold n values (order_clauses setting r t) fourth.1;
      operations = clauses_hold n values (operation_clauses setting r t) last.1;
    }

-- the variables of a step
pub step_own : EncodingsLimit → (v : VarsValue) (setting : SettingValue) (r t : ℕ) → IsReady v setting r t
    → NameOnly (IsOwn v.numbering v.steps) (step_part v.numbering setting v.encoding r t)
step_own all v setting r t ready =
    let n = v.numbering in
    let P : ℕ → Type 0 = IsOwn n v.steps in
    let first = first_helper n t in
    let within : first + (sizes_at n t).helpers ≤ before n (v.steps + 1) =
    subst (λ k. first + (sizes_at n t).helpers ≤ before n (k + 1)) ready.last (helpers_within n t) in
    let second = second_first v setting t in
    let places = bounds_own all v first first (place_bounds setting t) P
    (ready_from v first (place_bounds setting t) ready.places) (λ var own below. own)
    (λ var new. (omega (arith, new.0), omega (arith, new.1, within, ready.helpers))) in
    let activities = bounds_own all v second second (activity_bounds setting t) P
    (ready_from v second (activity_bounds setting t) ready.activities) (λ var own below. own)
    (λ var new. (omega (arith, new.0), omega (arith, new.1, within, ready.helpers))) in
    let passing = clauses_own v (passing_clauses setting r t) ready.passing in
    let orders = clauses_own v (order_clauses setting r t) ready.orders in
    let operations = clauses_own v (operation_clauses setting r t) ready.operations in
    let third = NameOnly-append P _ _ (NameOnly-append P _ _ places passing) activities in
    NameOnly-append P _ _ (NameOnly-append P _ _ third orders) operations

-- an assignment that says facts of a step can be given helpers that satisfy its clauses
pub step_extended : EncodingsLimit
    → (v : VarsValue) (setting : SettingValue) (facts : Facts) (r t : ℕ) (values : Valuation)
    → IsReady v setting r t
    → Says v.numbering facts values → StepHolds setting facts r t
    → Extended values (first_helper v.numbering t)
    (first_helper v.numbering t + (sizes_at v.numbering t).helpers)
    (step_part v.numbering setting v.encoding r t)
step_extended all v setting facts r t values ready says h =
    let n = v.numbering in
    let first = first_helper n t in
    let second = second_first v setting t in
    let end = first + (sizes_at n t).helpers in
    let from_places = ready_from v first (place_bounds setting t) ready.places in
    let from_activities = ready_from v second (activity_bounds setting t) ready.activities in
    let counts : second + helper_count v.encoding (activity_bounds setting t) ≡ end =
    omega (arith, ready.helpers) in
    let in_places = bounds_extended all v first first (place_bounds setting t) values from_places
    (bounds_said v facts values first (place_bounds setting t) says ready.places.each h.places) in
    let middle = in_places.other in
    let wide = AgreeExcept-trans first end first second first first values middle middle (omega arith)
    (omega (arith, counts)) (omega arith) (omega arith) in_places.agree
    (AgreeExcept-refl first first middle) in
    let says_middle = says_kept n facts t end values middle says refl wide in
    let in_activities = bounds_extended all v second second (activity_bounds setting t) middle from_activities
    (bounds_said v facts middle second (activity_bounds setting t) says_middle ready.activities.each
    h.activities) in
    let other = in_activities.other in
    let agree = AgreeExcept-trans first end first second second
    (second + helper_count v.encoding (activity_bounds setting t)) values middle other
    (omega arith) (omega (arith, counts)) (omega arith) (omega (arith, counts))
    in_places.agree in_activities.agree in
    let says_other = says_kept n facts t end values other says refl agree in
    let below = bounds_own all v first first (place_bounds setting t) (λ var. var < second) from_places
    (λ var own small. omega arith) (λ var new. new.1) in
    let kept = Satisfies-below second
    (second + helper_count v.encoding (activity_bounds setting t)) middle other
    (place_limits v setting t) in_activities.agree below in_places.satisfies in
    let passing = clauses_satisfied v facts other
    (passing_clauses setting r t) says_other ready.passing h.passing in
    let orders = clauses_satisfied v facts other (order_clauses setting r t) says_other ready.orders h.orders in
    let operations = clauses_satisfied v facts other
    (operation_clauses setting r t) says_other ready.operations h.operations in
    let third = Satisfies-append other _ _ (Satisfies-append other _ _ kept passing) in_activities.satisfies in
    record {
      other = other;
      agree = agree;
      satisfies = Satisfies-append other _ _ (Satisfies-append other _ _ third orders) operations;
    }
