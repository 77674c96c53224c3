-- The causes of a fault at a place, by what was before it.
use Rattle.std.proofs.Common.{◌≡◌, ℕ, ◌+◌, ◌<◌, ◌≤◌, List, [], ◌∷◌, ◌++◌, length, take, get_or, Bool, true, false, Some, sym, ap, subst, ◌∙◌, inl, inr, arith}
use Rattle.std.specs.Prelude.{All, IsTrue, slice_get, ◌||◌}
use Rattle.std.proofs.lemmas.Bool.{cases_lt, eqb-true, false_from_ne_true}
use Rattle.std.proofs.lemmas.Option.{none-some, same_Some, slice_get_within, get_or_from_slice_get}
use Rattle.std.proofs.lemmas.List.{length-take-le, take-take}
use Rattle.circuit_core.specs.Order.{is_performed}
use Rattle.trap_parts.specs.Parts.{TrapValue}
use Rattle.step_rules.specs.declared.action.Action.{Action}
use Rattle.step_rules.specs.declared.action.Action.TheVariants as actions
use Rattle.step_rules.specs.declared.action.Rule.{Rule}
use Rattle.step_rules.specs.Setting.{SettingValue}
use Rattle.step_rules.specs.Steps.{AreApart}
use Rattle.step_rules.specs.Guards.{Passes}
use Rattle.step_rules.specs.Tight.{Meet}
use Rattle.step_rules.specs.Play.{performs, is_done}
use Rattle.schedule_play.specs.declared.fault.PlayFault.{PlayFault}
use Rattle.schedule_play.specs.declared.fault.PlayFault.TheVariants as faults
use Rattle.schedule_play.specs.Faults.{IsAt, PerformsAt, ComesBefore, config_before, Breaks, IsShared, IsOwedAt, Causes, rank, IsFirst, LeavesOut}
use Rattle.schedule_play.specs.Judging.{Before, before_of, Owes, was_done, Fits, MeetsFirst, IsWell, GoWell, Offends}
use Rattle.schedule_play.specs.Progress.{StepIsWell, StepStops}
use Rattle.schedule_play.proofs.Lists.{slice_pushed, slice_taken, slice_take, slice_last}
use Rattle.schedule_play.proofs.Done.{DoneAt, done_at, at_done, done_append}

-- ---- places

-- what was before the action at a place
abbrev pub before_at : List (List Action) → ℕ → ℕ → List Action → Before
before_at steps time place step = before_of (take time steps) (take place step)

pub one_action : (steps : List (List Action)) (time place : ℕ) (a b : Action) → IsAt steps time place a → IsAt steps time place b → a ≡ b
one_action steps time place a b one other =
    let step : one.step ≡ other.step = same_Some one.step other.step (sym one.at_time ∙ other.at_time) in
    same_Some a b (sym one.in_step ∙ ap (λ (s : List Action). slice_get s place) step ∙ other.in_step)

pub performs_at_done : (steps : List (List Action)) (op time earlier place : ℕ) → earlier < time → PerformsAt steps op earlier place → is_done (take time steps) op ≡ true
performs_at_done steps op time earlier place h it =
    at_done (take time steps) earlier place op it.there.step it.action (slice_take time steps it.there.step earlier h it.there.at_time) it.there.in_step it.is

-- an operation that these steps perform is performed at a place of theirs
pub record DoneBefore (steps : List (List Action)) (op time : ℕ) : Type 0 where
  pub earlier : ℕ
  pub place : ℕ
  pub before : earlier < time
  pub done : PerformsAt steps op earlier place

pub done_performs_at : (steps : List (List Action)) (op time : ℕ) → is_done (take time steps) op ≡ true → DoneBefore steps op time
done_performs_at steps op time e =
    let it : DoneAt (take time steps) op = done_at (take time steps) op e in
    let there = slice_taken time steps it.step it.time it.at_time in
    record { earlier = it.time; place = it.place; before = there.0; done = record { action = it.action; there = record { step = it.step; at_time = there.1; in_step = it.in_step }; is = it.is } }

pub undone_before : (steps : List (List Action)) (op time : ℕ) → ((earlier place : ℕ) → earlier < time → PerformsAt steps op earlier place → ⊥) → is_done (take time steps) op ≡ false
undone_before steps op time none = false_from_ne_true (is_done (take time steps) op) (λ e. (let it = done_performs_at steps op time e in none it.earlier it.place it.before it.done))

-- ---- an operation that was performed before

taken_length : (steps : List (List Action)) (time : ℕ) (step : List Action) → slice_get steps time ≡ Some step → length (take time steps) ≡ time
taken_length steps time step at = length-take-le time steps (omega (arith, slice_get_within steps time step at))

place_length : (step : List Action) (place : ℕ) (action : Action) → slice_get step place ≡ Some action → length (take place step) ≡ place
place_length step place action at = length-take-le place step (omega (arith, slice_get_within step place action at))

done_earlier : (steps : List (List Action)) (time place op t p : ℕ) (step : List Action) → slice_get steps time ≡ Some step → ComesBefore t p time place → PerformsAt steps op t p → was_done (before_at steps time place step) op ≡ true
done_earlier steps time place op t p step at (inl h) it =
    done_append (take time steps) (take place step ∷ []) op ∙ ap (λ (b : Bool). b || is_done (take place step ∷ []) op) (performs_at_done steps op time t p h it)
done_earlier steps time place op t p step at (inr same) it =
    let whole : List (List Action) = take time steps ++ take place step ∷ [] in
    let here : it.there.step ≡ step = same_Some it.there.step step (sym it.there.at_time ∙ ap (slice_get steps) same.0 ∙ at) in
    let last : slice_get whole t ≡ Some (take place step) = ap (slice_get whole) (same.0 ∙ sym (taken_length steps time step at)) ∙ slice_last (take time steps) (take place step) in
    let in_front : slice_get (take place step) p ≡ Some it.action = slice_take place step it.action p same.1 (ap (λ (s : List Action). slice_get s p) (sym here) ∙ it.there.in_step) in
    at_done whole t p op (take place step) it.action last in_front it.is

record DoneEarlier (steps : List (List Action)) (time place op : ℕ) : Type 0 where
  t : ℕ
  p : ℕ
  before : ComesBefore t p time place
  done : PerformsAt steps op t p

earlier_done : (steps : List (List Action)) (time place op : ℕ) (step : List Action) → slice_get steps time ≡ Some step → was_done (before_at steps time place step) op ≡ true → DoneEarlier steps time place op
earlier_done steps time place op step at e =
    let whole : List (List Action) = take time steps ++ take place step ∷ [] in
    let it : DoneAt whole op = done_at whole op e in
    elim (slice_pushed (take time steps) (take place step) it.step it.time it.at_time) [
      | inl there ↦ (let inside = slice_taken time steps it.step it.time there.1 in
          record { t = it.time; p = it.place; before = inl inside.0; done = record { action = it.action; there = record { step = it.step; at_time = inside.1; in_step = it.in_step }; is = it.is } })
      | inr last ↦ (let same : it.time ≡ time = last.0 ∙ taken_length steps time step at in
          let inside = slice_taken place step it.action it.place (ap (λ (s : List Action). slice_get s it.place) last.1 ∙ it.in_step) in
          record { t = it.time; p = it.place; before = inr (same, inside.0); done = record { action = it.action; there = record { step = step; at_time = ap (slice_get steps) same ∙ at; in_step = inside.1 }; is = it.is } })
    ]

-- ---- what is owed

owed_from : (setting : SettingValue) (steps : List (List Action)) (time op needs : ℕ) (actions : List Action) → Owes setting (before_of (take time steps) actions) op needs → IsOwedAt setting steps time op needs
owed_from setting steps time op needs actions owes = record {
  performed = owes.performed;
  forced = owes.forced;
  undone = λ earlier place h it. (let done = performs_at_done steps needs time earlier place h it in let free = owes.undone in cc);
}

owed_to : (setting : SettingValue) (steps : List (List Action)) (time op needs : ℕ) (actions : List Action) → IsOwedAt setting steps time op needs → Owes setting (before_of (take time steps) actions) op needs
owed_to setting steps time op needs actions owed = record { performed = owed.performed; forced = owed.forced; undone = undone_before steps needs time owed.undone }

-- ---- what is shared

-- an action that met one is not apart from all
pub not_apart : (trap : TrapValue) (actions : List Action) (action other : Action) (place : ℕ) → slice_get actions place ≡ Some other → Meet trap other action → All (λ (earlier : Action). AreApart trap earlier action) actions → ⊥
not_apart trap actions action other place at meet apart =
    let is : get_or actions place other ≡ other = get_or_from_slice_get actions place other other at in
    let free : AreApart trap other action = subst (λ (a : Action). AreApart trap a action) is (apart place other (slice_get_within actions place other at)) in
    free meet.spot meet.of_a meet.of_b

-- the action at an earlier place of the step, in the front of the step
in_front : (steps : List (List Action)) (time k place : ℕ) (step : List Action) (other : Action) → slice_get steps time ≡ Some step → k < place → IsAt steps time k other → slice_get (take place step) k ≡ Some other
in_front steps time k place step other at h it =
    slice_take place step other k h (ap (λ (s : List Action). slice_get s k) (same_Some step it.step (sym at ∙ it.at_time)) ∙ it.in_step)

shared_from : (trap : TrapValue) (steps : List (List Action)) (time place number : ℕ) (step : List Action) (action : Action) → slice_get steps time ≡ Some step → slice_get step place ≡ Some action → MeetsFirst trap (take place step) action number
    → IsShared trap steps time place number
shared_from trap steps time place number step action at in_step it =
    let there = slice_taken place step it.other it.place it.there in
    record {
      action = action;
      there = record { step = step; at_time = at; in_step = in_step };
      first = it.place;
      number_is = it.number_is;
      before = there.0;
      meets = record { other = it.other; there = record { step = step; at_time = at; in_step = there.1 }; meet = it.meet };
      least = λ earlier h meets.
          not_apart trap (take it.place (take place step)) action meets.other earlier
          (slice_take it.place (take place step) meets.other earlier h (in_front steps time earlier place step meets.other at (omega (arith, there.0)) meets.there)) meets.meet it.apart;
    }

shared_apart : (trap : TrapValue) (steps : List (List Action)) (time place number : ℕ) (step : List Action) (action : Action) → IsAt steps time place action → slice_get steps time ≡ Some step → IsShared trap steps time place number
    → All (λ (earlier : Action). AreApart trap earlier action) (take place step) → ⊥
shared_apart trap steps time place number step action here at it apart =
    let same : it.action ≡ action = one_action steps time place it.action action it.there here in
    not_apart trap (take place step) action it.meets.other it.first (in_front steps time it.first place step it.meets.other at it.before it.meets.there)
    (subst (λ (a : Action). Meet trap it.meets.other a) same it.meets.meet) apart

-- ---- where all is well there is no cause

breaks_passes : (setting : SettingValue) (steps : List (List Action)) (time place : ℕ) (rule : Rule) (action : Action) → IsAt steps time place action → Breaks setting steps time place rule → Passes setting (config_before setting steps time) action → ⊥
breaks_passes setting steps time place rule action here it passes =
    let same : it.action ≡ action = one_action steps time place it.action action it.there here in
    none-some rule (sym (subst (Passes setting (config_before setting steps time)) (sym same) passes) ∙ it.broken)

performs_here : (steps : List (List Action)) (op time place : ℕ) (action : Action) → IsAt steps time place action → PerformsAt steps op time place → performs op action ≡ true
performs_here steps op time place action here it = ap (performs op) (one_action steps time place action it.action here it.there) ∙ it.is

pub well_uncaused : (setting : SettingValue) (steps : List (List Action)) (time place : ℕ) (step : List Action) (action : Action) (fault : PlayFault) → slice_get steps time ≡ Some step → slice_get step place ≡ Some action → IsWell setting (before_at steps time place step) action
    → Causes setting steps time place fault → ⊥
well_uncaused setting steps time place step action (faults.Broken number count rule) at in_step well cause =
    breaks_passes setting steps time place rule action (record { step = step; at_time = at; in_step = in_step }) cause.2 well.passes
well_uncaused setting steps time place step action (faults.Shared number first second) at in_step well cause =
    shared_apart setting.trap steps time place first step action (record { step = step; at_time = at; in_step = in_step }) at cause.2 well.apart
well_uncaused setting steps time place step action (faults.Early number op needs) at in_step well cause =
    let it = cause.1 in
    well.none_owed op.0 needs.0 (performs_here steps op.0 time place action (record { step = step; at_time = at; in_step = in_step }) it.here) (owed_to setting steps time op.0 needs.0 (take place step) it.owed)
well_uncaused setting steps time place step action (faults.Twice number op) at in_step well cause =
    let it = cause.1 in
    let free = well.first op.0 (performs_here steps op.0 time place action (record { step = step; at_time = at; in_step = in_step }) it.here) in
    let done = done_earlier steps time place op.0 it.earlier_time it.earlier_place step at it.before it.done in
    cc
well_uncaused setting steps time place step action (faults.Missing op) at in_step well cause = cause
well_uncaused setting steps time place step action faults.NoMemory at in_step well cause = cause

-- ---- what is wrong is a cause, the first at its place

pub offends_causes : (setting : SettingValue) (steps : List (List Action)) (time place : ℕ) (step : List Action) (action : Action) (fault : PlayFault) → slice_get steps time ≡ Some step → slice_get step place ≡ Some action → Offends setting (before_at steps time place step) action fault
    → Causes setting steps time place fault
offends_causes setting steps time place step action (faults.Broken number count rule) at in_step offends = (
  omega (arith, offends.0.0, taken_length steps time step at),
  omega (arith, offends.0.1, place_length step place action in_step),
  record { action = action; there = record { step = step; at_time = at; in_step = in_step }; broken = offends.1 },
)
offends_causes setting steps time place step action (faults.Shared number first second) at in_step offends = (
  omega (arith, offends.0.0, taken_length steps time step at),
  omega (arith, offends.0.1, place_length step place action in_step),
  shared_from setting.trap steps time place first step action at in_step offends.2,
)
offends_causes setting steps time place step action (faults.Early number op needs) at in_step offends = (
  omega (arith, offends.0, taken_length steps time step at),
  record {
    here = record { action = action; there = record { step = step; at_time = at; in_step = in_step }; is = offends.2 };
    owed = owed_from setting steps time op.0 needs.0 (take place step) offends.3.owed;
    least = λ other owed. offends.3.least other (owed_to setting steps time op.0 other (take place step) owed);
  },
)
offends_causes setting steps time place step action (faults.Twice number op) at in_step offends =
    let it = earlier_done steps time place op.0 step at offends.4 in (
      omega (arith, offends.0, taken_length steps time step at),
      record {
        here = record { action = action; there = record { step = step; at_time = at; in_step = in_step }; is = offends.2 };
        earlier_time = it.t;
        earlier_place = it.p;
        before = it.before;
        done = it.done;
      },
    )
offends_causes setting steps time place step action (faults.Missing op) at in_step offends = offends
offends_causes setting steps time place step action faults.NoMemory at in_step offends = offends

-- after guards that pass no cause is a broken rule
passes_rank : (setting : SettingValue) (steps : List (List Action)) (time place : ℕ) (action : Action) (other : PlayFault) → IsAt steps time place action → Passes setting (config_before setting steps time) action → Causes setting steps time place other → 1 ≤ rank other
passes_rank setting steps time place action (faults.Broken number count rule) here passes cause = absurd (breaks_passes setting steps time place rule action here cause.2 passes)
passes_rank setting steps time place action (faults.Shared number first second) here passes cause = omega arith
passes_rank setting steps time place action (faults.Early number op needs) here passes cause = omega arith
passes_rank setting steps time place action (faults.Twice number op) here passes cause = omega arith
passes_rank setting steps time place action (faults.Missing op) here passes cause = absurd cause
passes_rank setting steps time place action faults.NoMemory here passes cause = absurd cause

fits_rank : (setting : SettingValue) (steps : List (List Action)) (time place : ℕ) (step : List Action) (action : Action) (other : PlayFault) → slice_get steps time ≡ Some step → IsAt steps time place action → Fits setting (before_at steps time place step) action
    → Causes setting steps time place other → 2 ≤ rank other
fits_rank setting steps time place step action (faults.Broken number count rule) at here fits cause = absurd (breaks_passes setting steps time place rule action here cause.2 fits.passes)
fits_rank setting steps time place step action (faults.Shared number first second) at here fits cause = absurd (shared_apart setting.trap steps time place first step action here at cause.2 fits.apart)
fits_rank setting steps time place step action (faults.Early number op needs) at here fits cause = omega arith
fits_rank setting steps time place step action (faults.Twice number op) at here fits cause = omega arith
fits_rank setting steps time place step action (faults.Missing op) at here fits cause = absurd cause
fits_rank setting steps time place step action faults.NoMemory at here fits cause = absurd cause

-- an action performs one operation
pub performs_one : (action : Action) (m n : ℕ) → performs m action ≡ true → performs n action ≡ true → m ≡ n
performs_one (actions.Split zone end count) m n e f = absurd cc
performs_one (actions.Move from to) m n e f = absurd cc
performs_one (actions.Cross junction from to) m n e f = absurd cc
performs_one (actions.Merge zone end) m n e f = absurd cc
performs_one (actions.Swap zone index) m n e f = absurd cc
performs_one (actions.Op zone op) m n e f = sym (eqb-true op.0 m e) ∙ eqb-true op.0 n f

ready_rank : (setting : SettingValue) (steps : List (List Action)) (time place k : ℕ) (step : List Action) (action : Action) (other : PlayFault) → slice_get steps time ≡ Some step → IsAt steps time place action → Fits setting (before_at steps time place step) action
    → performs k action ≡ true → ((needs : ℕ) → Owes setting (before_at steps time place step) k needs → ⊥) → Causes setting steps time place other → 3 ≤ rank other
ready_rank setting steps time place k step action (faults.Broken number count rule) at here fits is none cause = absurd (breaks_passes setting steps time place rule action here cause.2 fits.passes)
ready_rank setting steps time place k step action (faults.Shared number first second) at here fits is none cause = absurd (shared_apart setting.trap steps time place first step action here at cause.2 fits.apart)
ready_rank setting steps time place k step action (faults.Early number op needs) at here fits is none cause =
    let it = cause.1 in
    let same : op.0 ≡ k = performs_one action op.0 k (performs_here steps op.0 time place action here it.here) is in
    absurd (none needs.0 (subst (λ (n : ℕ). Owes setting (before_at steps time place step) n needs.0) same (owed_to setting steps time op.0 needs.0 (take place step) it.owed)))
ready_rank setting steps time place k step action (faults.Twice number op) at here fits is none cause = omega arith
ready_rank setting steps time place k step action (faults.Missing op) at here fits is none cause = absurd cause
ready_rank setting steps time place k step action faults.NoMemory at here fits is none cause = absurd cause

pub offends_first : (setting : SettingValue) (steps : List (List Action)) (time place : ℕ) (step : List Action) (action : Action) (fault other : PlayFault) → slice_get steps time ≡ Some step → slice_get step place ≡ Some action
    → Offends setting (before_at steps time place step) action fault → Causes setting steps time place other → rank fault ≤ rank other
offends_first setting steps time place step action (faults.Broken number count rule) other at in_step offends cause = omega arith
offends_first setting steps time place step action (faults.Shared number first second) other at in_step offends cause =
    passes_rank setting steps time place action other (record { step = step; at_time = at; in_step = in_step }) offends.1 cause
offends_first setting steps time place step action (faults.Early number op needs) other at in_step offends cause =
    fits_rank setting steps time place step action other at (record { step = step; at_time = at; in_step = in_step }) offends.1 cause
offends_first setting steps time place step action (faults.Twice number op) other at in_step offends cause =
    ready_rank setting steps time place op.0 step action other at (record { step = step; at_time = at; in_step = in_step }) offends.1 offends.2 offends.3 cause
offends_first setting steps time place step action (faults.Missing op) other at in_step offends cause = absurd offends
offends_first setting steps time place step action faults.NoMemory other at in_step offends cause = absurd offends

-- ---- the first fault of the schedule

record ActionAt (steps : List (List Action)) (time place : ℕ) : Type 0 where
  action : Action
  there : IsAt steps time place action

-- a cause is one of an action
action_of : (setting : SettingValue) (steps : List (List Action)) (time place : ℕ) (fault : PlayFault) → Causes setting steps time place fault → ActionAt steps time place
action_of setting steps time place (faults.Broken number count rule) cause = record { action = cause.2.action; there = cause.2.there }
action_of setting steps time place (faults.Shared number first second) cause = record { action = cause.2.action; there = cause.2.there }
action_of setting steps time place (faults.Early number op needs) cause = record { action = cause.1.here.action; there = cause.1.here.there }
action_of setting steps time place (faults.Twice number op) cause = record { action = cause.1.here.action; there = cause.1.here.there }
action_of setting steps time place (faults.Missing op) cause = absurd cause
action_of setting steps time place faults.NoMemory cause = absurd cause

-- steps with which all is well have no cause
pub well_none_caused : (setting : SettingValue) (steps : List (List Action)) → GoWell setting steps → (time place : ℕ) (fault : PlayFault) → Causes setting steps time place fault → ⊥
well_none_caused setting steps go time place fault cause =
    let it = action_of setting steps time place fault cause in
    well_uncaused setting steps time place it.there.step it.action fault it.there.at_time it.there.in_step (go time place it.there.step it.action it.there.at_time it.there.in_step) cause

before_uncaused : (setting : SettingValue) (steps : List (List Action)) (time place t p : ℕ) (step : List Action) (fault : PlayFault) → slice_get steps time ≡ Some step → GoWell setting (take time steps) → StepIsWell setting (take time steps) (take place step)
    → ComesBefore t p time place → Causes setting steps t p fault → ⊥
before_uncaused setting steps time place t p step fault at go well (inl h) cause =
    let it = action_of setting steps t p fault cause in
    let front : take t (take time steps) ≡ take t steps = take-take t time steps (omega arith) in
    let is : IsWell setting (before_of (take t (take time steps)) (take p it.there.step)) it.action =
    go t p it.there.step it.action (slice_take time steps it.there.step t h it.there.at_time) it.there.in_step in
    well_uncaused setting steps t p it.there.step it.action fault it.there.at_time it.there.in_step
    (subst (λ (l : List (List Action)). IsWell setting (before_of l (take p it.there.step)) it.action) front is) cause
before_uncaused setting steps time place t p step fault at go well (inr same) cause =
    let here : Causes setting steps time p fault = subst (λ (n : ℕ). Causes setting steps n p fault) same.0 cause in
    let it = action_of setting steps time p fault here in
    let one : it.there.step ≡ step = same_Some it.there.step step (sym it.there.at_time ∙ at) in
    let in_step : slice_get step p ≡ Some it.action = ap (λ (s : List Action). slice_get s p) (sym one) ∙ it.there.in_step in
    let front : take p (take place step) ≡ take p step = take-take p place step (omega (arith, same.1)) in
    let is : IsWell setting (before_of (take time steps) (take p (take place step))) it.action = well p it.action (slice_take place step it.action p same.1 in_step) in
    well_uncaused setting steps time p step it.action fault at in_step (subst (λ (l : List Action). IsWell setting (before_of (take time steps) l) it.action) front is) here

pub step_first : (setting : SettingValue) (steps : List (List Action)) (time : ℕ) (step : List Action) (fault : PlayFault) → slice_get steps time ≡ Some step → GoWell setting (take time steps) → StepStops setting (take time steps) step fault → IsFirst setting steps fault
step_first setting steps time step fault at go stops = record {
  time = time;
  place = stops.place;
  cause = offends_causes setting steps time stops.place step stops.action fault at stops.in_step stops.offends;
  first = λ other cause. offends_first setting steps time stops.place step stops.action fault other at stops.in_step stops.offends cause;
  none_before = λ t p other before cause. before_uncaused setting steps time stops.place t p step other at go stops.well before cause;
}

-- ---- an operation that is left out

done_somewhere : (steps : List (List Action)) (op time place : ℕ) → PerformsAt steps op time place → is_done steps op ≡ true
done_somewhere steps op time place it = at_done steps time place op it.there.step it.action it.there.at_time it.there.in_step it.is

pub undone_out : (steps : List (List Action)) (op : ℕ) → is_done steps op ≡ false → (time place : ℕ) → PerformsAt steps op time place → ⊥
undone_out steps op undone time place it = let done = done_somewhere steps op time place it in cc

pub out_undone : (steps : List (List Action)) (op : ℕ) → ((time place : ℕ) → PerformsAt steps op time place → ⊥) → is_done steps op ≡ false
out_undone steps op none = false_from_ne_true (is_done steps op) (λ e.
    (let it : DoneAt steps op = done_at steps op e in
    none it.time it.place (record { action = it.action; there = record { step = it.step; at_time = it.at_time; in_step = it.in_step }; is = it.is })))

pub leaves_out : (setting : SettingValue) (steps : List (List Action)) (op : ℕ) → GoWell setting steps → IsTrue (is_performed setting.circuit op) → is_done steps op ≡ false
    → ((other : ℕ) → other < op → IsTrue (is_performed setting.circuit other) → is_done steps other ≡ true) → LeavesOut setting steps op
leaves_out setting steps op go performed undone least = record {
  none = well_none_caused setting steps go;
  left_out = record { performed = performed; undone = undone_out steps op undone };
  least = λ other out. elim (cases_lt other op) [
    | inl below ↦ absurd (let done = least other below out.performed in let free = out_undone steps other out.undone in cc)
    | inr above ↦ above
  ];
}
