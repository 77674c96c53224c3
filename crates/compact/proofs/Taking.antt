-- One action more has its step.
use Rattle.std.proofs.Common.{◌≡◌, ℕ, ◌+◌, ◌<◌, ◌≤◌, max, List, [], ◌∷◌, ◌++◌, length, take, Some, sym, ap, subst, ◌∙◌, arith}
use Rattle.std.specs.Prelude.{slice_get, All, Contains}
use Rattle.std.proofs.lemmas.List.{length_push}
use Rattle.std.proofs.lemmas.List.Elements.{All-nil, All-push, All-weaker}
use Rattle.qc_base.specs.declared.ids.OpId.{OpId}
use Rattle.qc_base.specs.declared.ids.PlaceId.{PlaceId}
use Rattle.step_rules.specs.declared.action.Action.{Action}
use Rattle.step_rules.specs.declared.action.Action.TheVariants as kinds
use Rattle.step_rules.specs.Setting.{SettingValue}
use Rattle.step_rules.specs.Steps.{Spot, footprint}
use Rattle.step_rules.specs.Tight.{Meet}
use Rattle.compact.specs.Latest.{IsAt, IsLast, IsNextTime}
use Rattle.compact.specs.Levels.{IsGreatest, AreRaised, SpotsValue, spot_level}
use Rattle.compact.specs.Orders.{Performs, Precedes, AreOrdered, AreOrders, OrdersValue}
use Rattle.compact.specs.Clock.{ClockValue, IsClock, IsKnown}
use Rattle.compact.proofs.Keeping.{orders_past, spots_noted}
use Rattle.compact.proofs.Timing.{meeting, last_below, next_without, next_with, no_times, times_more}
use Rattle.compact.proofs.Reaching.{Performing, performing}

-- what holds of the step of the next action, and of what is kept after it
pub record IsTaken (setting : SettingValue) (actions : List Action) (times : List ℕ) (time : ℕ) (kept : ClockValue) : Type 0 where
  pub next : (action : Action) → slice_get actions (length times) ≡ Some action → IsNextTime setting (take (length times) actions) times action time
  pub below : time ≤ length times
  pub clock : IsClock setting actions (times ++ time ∷ []) kept

pub performs_none : (action : Action) → ((zone : PlaceId) (op : OpId) → action ≡ kinds.Op zone op → ⊥) → (which : ℕ → Type 0) → Performs which action → ⊥
performs_none action not which it = let one : Performing which action = performing which action it in not one.zone one.op one.is

same_action : (actions : List Action) (k : ℕ) (a b : Action) → slice_get actions k ≡ Some a → slice_get actions k ≡ Some b → a ≡ b
same_action actions k a b e f = let both : Some a ≡ Some b = sym e ∙ f in cc

pub free_below : (setting : SettingValue) (actions : List Action) (times : List ℕ) (action : Action) (works : List Spot) (free : ℕ) (old : ClockValue) → works ≡ footprint setting.trap action → IsGreatest (Contains works) (spot_level old.spots) free
    → All (λ (time : ℕ). time < length times) times → IsClock setting actions times old → free ≤ length times
free_below setting actions times action works free old is greatest below clock =
    last_below (take (length times) actions) times (λ (earlier : Action). Meet setting.trap earlier action) free (length times)
    (meeting setting.trap (IsAt (take (length times) actions) times) action works old.spots free is greatest clock.spots) below

pub taken_other : (setting : SettingValue) (actions : List Action) (times : List ℕ) (action : Action) (works : List Spot) (free level : ℕ) (old : ClockValue) (spots : SpotsValue) → slice_get actions (length times) ≡ Some action
    → ((which : ℕ → Type 0) → Performs which action → ⊥) → works ≡ footprint setting.trap action → IsGreatest (Contains works) (spot_level old.spots) free → AreRaised (Contains works) (spot_level old.spots) (spot_level spots) level → level ≡ free + 1
    → All (λ (time : ℕ). time < length times) times → IsClock setting actions times old → IsTaken setting actions times free (record { spots = spots; orders = old.orders })
taken_other setting actions times action works free level old spots there no_op is greatest raised e below clock = record {
  next = λ other at. subst (λ (a : Action). IsNextTime setting (take (length times) actions) times a free) (same_action actions (length times) action other there at)
      (next_without setting (take (length times) actions) times action free no_op (meeting setting.trap (IsAt (take (length times) actions) times) action works old.spots free is greatest clock.spots));
  below = free_below setting actions times action works free old is greatest below clock;
  clock = record {
    spots = spots_noted setting.trap actions times action free level works old.spots spots there is e raised clock.spots;
    orders = orders_past setting.circuit actions times action free old.orders there no_op clock.orders;
  };
}

pub ready_below : (setting : SettingValue) (actions : List Action) (times : List ℕ) (op ready : ℕ) → IsLast (IsAt (take (length times) actions) times) (Precedes setting.circuit op) ready → All (λ (time : ℕ). time < length times) times → ready ≤ length times
ready_below setting actions times op ready its below = last_below (take (length times) actions) times (Precedes setting.circuit op) ready (length times) its below

pub taken_op : (setting : SettingValue) (actions : List Action) (times : List ℕ) (zone : PlaceId) (op : OpId) (works : List Spot) (free ready time level : ℕ) (old : ClockValue) (spots : SpotsValue) (orders : OrdersValue) → AreOrdered setting.circuit actions
    → slice_get actions (length times) ≡ Some (kinds.Op zone op) → works ≡ footprint setting.trap (kinds.Op zone op) → IsGreatest (Contains works) (spot_level old.spots) free → AreRaised (Contains works) (spot_level old.spots) (spot_level spots) level
    → IsLast (IsAt (take (length times) actions) times) (Precedes setting.circuit op.0) ready → time ≡ max ready free → level ≡ time + 1 → All (λ (t : ℕ). t < length times) times → IsClock setting actions times old
    → AreOrders setting.circuit actions (times ++ time ∷ []) (length times + 1) orders → IsTaken setting actions times time (record { spots = spots; orders = orders })
taken_op setting actions times zone op works free ready time level old spots orders ordered there is greatest raised its e l below clock new =
    let noted : Action → ℕ → Type 0 = IsAt (take (length times) actions) times in
    let of_free : IsLast noted (λ (earlier : Action). Meet setting.trap earlier (kinds.Op zone op)) free = meeting setting.trap noted (kinds.Op zone op) works old.spots free is greatest clock.spots in
    let free_is : free ≤ length times = free_below setting actions times (kinds.Op zone op) works free old is greatest below clock in
    let ready_is : ready ≤ length times = ready_below setting actions times op.0 ready its below in
    record {
      next = λ other at. subst (λ (a : Action). IsNextTime setting (take (length times) actions) times a time) (same_action actions (length times) (kinds.Op zone op) other there at)
          (next_with setting actions times (length times) zone op free ready time ordered there of_free its e);
      below = omega arith;
      clock = record {
        spots = spots_noted setting.trap actions times (kinds.Op zone op) time level works old.spots spots there is l raised clock.spots;
        orders = subst (λ (n : ℕ). AreOrders setting.circuit actions (times ++ time ∷ []) n orders) (sym (length_push times time)) new;
      };
    }

pub all_below : (times : List ℕ) (time : ℕ) → time ≤ length times → All (λ (t : ℕ). t < length times) times → All (λ (t : ℕ). t < length (times ++ time ∷ [])) (times ++ time ∷ [])
all_below times time h below =
    let grown : length (times ++ time ∷ []) ≡ length times + 1 = length_push times time in
    All-push (λ (t : ℕ). t < length (times ++ time ∷ [])) times time
    (All-weaker (λ (t : ℕ). t < length times) (λ (t : ℕ). t < length (times ++ time ∷ [])) (λ t less. omega arith) times below) (omega arith)

pub none_known : (setting : SettingValue) (actions : List Action) (clock : ClockValue) → IsClock setting actions [] clock → IsKnown setting actions [] clock
none_known setting actions clock kept = record { within = omega arith; times_are = no_times setting; below = All-nil (λ (time : ℕ). time < 0); kept = kept }

pub known_more : (setting : SettingValue) (actions : List Action) (times known : List ℕ) (time : ℕ) (old new : ClockValue) → length times < length actions → known ≡ times → IsKnown setting actions times old
    → ((action : Action) → slice_get actions (length known) ≡ Some action → IsNextTime setting (take (length known) actions) known action time) → time ≤ length known → IsClock setting actions (known ++ time ∷ []) new
    → IsKnown setting actions (times ++ time ∷ []) new
known_more setting actions times known time old new inside same its next below clock =
    let now : time ≤ length times = omega (arith, ap length same) in
    record {
      within = omega (arith, length_push times time);
      times_are = times_more setting actions times time inside its.times_are
          (subst (λ (l : List ℕ). (action : Action) → slice_get actions (length l) ≡ Some action → IsNextTime setting (take (length l) actions) l action time) same next);
      below = all_below times time now its.below;
      kept = subst (λ (l : List ℕ). IsClock setting actions (l ++ time ∷ []) new) same clock;
    }
