-- Each schedule plays or has a fault.
use Rattle.std.proofs.Common.{◌≡◌, ℕ, zero, suc, ◌+◌, ◌<◌, List, [], ◌∷◌, ◌++◌, length, take, get_or, true, false, Some, None, refl, sym, ap, subst, ◌∙◌, inl, inr, arith, append_assoc}
use Rattle.std.specs.Prelude.{All, IsTrue, Option, ◌⊎◌, slice_get}
use Rattle.std.specs.List.{list_any}
use Rattle.std.proofs.Math.Seq.{take-append_seam}
use Rattle.std.proofs.lemmas.Bool.{cases_Bool, cases_eq, cases_lt, eq-eqb, eqb-true}
use Rattle.std.proofs.lemmas.Option.{none-some, same_Some, slice_get-get_or}
use Rattle.std.proofs.lemmas.List.{append-nil}
use Rattle.qc_base.specs.declared.ids.OpId.{OpId}
use Rattle.qc_base.specs.declared.ids.PlaceId.{PlaceId}
use Rattle.circuit_core.specs.Circuit.{CircuitValue}
use Rattle.circuit_core.specs.Order.{Forced, is_performed}
use Rattle.circuit_core.specs.Deciding.{is_forced}
use Rattle.circuit_core.proofs.Forcing.{forced_iff}
use Rattle.trap_parts.specs.Parts.{TrapValue}
use Rattle.step_rules.specs.declared.action.Action.{Action}
use Rattle.step_rules.specs.declared.action.Action.TheVariants as actions
use Rattle.step_rules.specs.declared.action.Rule.{Rule}
use Rattle.step_rules.specs.Footprint.{same_spot, is_worked_on}
use Rattle.step_rules.specs.Setting.{SettingValue}
use Rattle.step_rules.specs.Steps.{Spot, place, junction, footprint, AreApart}
use Rattle.step_rules.specs.Guards.{guards, first_broken}
use Rattle.step_rules.specs.Tight.{Meet}
use Rattle.step_rules.proofs.Meeting.{met, meets}
use Rattle.step_rules.specs.Play.{performs, is_done}
use Rattle.schedule_play.specs.declared.fault.PlayFault.{PlayFault}
use Rattle.schedule_play.specs.declared.fault.PlayFault.TheVariants as faults
use Rattle.schedule_play.specs.Faults.{IsFirst, IsFault, IsJudged}
use Rattle.schedule_play.specs.Judging.{Before, before_of, config_at, was_done, Owes, OwesFirst, Fits, IsWell, GoWell, MeetsFirst, Offends}
use Rattle.schedule_play.specs.Progress.{StepIsWell, StepStops}
use Rattle.schedule_play.proofs.Lists.{slice_taken}
use Rattle.schedule_play.proofs.Owed.{numbered, forced_within}
use Rattle.schedule_play.proofs.Going.{well_none, well_pushed}
use Rattle.schedule_play.proofs.Judged.{performed_within}
use Rattle.schedule_play.proofs.Stepped.{step_well_pushed}
use Rattle.schedule_play.proofs.Played.{at_seam, plays}
use Rattle.schedule_play.proofs.Causes.{step_first, leaves_out}

-- ---- the least number that is so

abbrev Decided : Type 0 → Type 0
Decided P = P ⊎ (P → ⊥)

record LeastOf (P : ℕ → Type 0) : Type 0 where
  number : ℕ
  is : P number
  none_below : (other : ℕ) → other < number → P other → ⊥

-- the bound is the least, where none below it is so
least_or_bound : (P : ℕ → Type 0) (bound : ℕ) → Decided (P bound) → ((k : ℕ) → k < bound → P k → ⊥) → LeastOf P ⊎ ((k : ℕ) → k < suc bound → P k → ⊥)
least_or_bound P bound (inl is) none = inl (record { number = bound; is = is; none_below = none })
least_or_bound P bound (inr isnt) none = inr (λ k h is. elim (cases_eq k bound) [
  | inl same ↦ isnt (subst P same is)
  | inr other ↦ none k (omega arith) is
])

least_below : (P : ℕ → Type 0) → ((k : ℕ) → Decided (P k)) → (bound : ℕ) → LeastOf P ⊎ ((k : ℕ) → k < bound → P k → ⊥)
least_below P each zero = inr (λ k h is. absurd (omega arith))
least_below P each (suc bound) = elim (least_below P each bound) [
  | inl least ↦ inl least
  | inr none ↦ least_or_bound P bound (each bound) none
]

-- ---- what is owed

forced_decided : (circuit : CircuitValue) (i j : ℕ) → Decided (Forced circuit i j)
forced_decided circuit i j = elim (cases_Bool (is_forced circuit i j)) [
  | inl is ↦ inl ((forced_iff circuit i j).0 is)
  | inr isnt ↦ inr (λ forced. (let is = (forced_iff circuit i j).1 forced in cc))
]

-- an action has to perform the operation, and none of these steps does
record IsUndoneBy (circuit : CircuitValue) (steps : List (List Action)) (op : ℕ) : Type 0 where
  performed : IsTrue (is_performed circuit op)
  undone : is_done steps op ≡ false

undone_decided : (circuit : CircuitValue) (steps : List (List Action)) (op : ℕ) → Decided (IsUndoneBy circuit steps op)
undone_decided circuit steps op = elim (cases_Bool (is_performed circuit op)) [
  | inl performed ↦ elim (cases_Bool (is_done steps op)) [
    | inl done ↦ inr (λ it. (let free = it.undone in cc))
    | inr undone ↦ inl (record { performed = performed; undone = undone })
  ]
  | inr isnt ↦ inr (λ it. (let is = it.performed in cc))
]

owes_decided : (setting : SettingValue) (before : Before) (op needs : ℕ) → Decided (Owes setting before op needs)
owes_decided setting before op needs = elim (undone_decided setting.circuit before.steps needs) [
  | inl it ↦ elim (forced_decided setting.circuit needs op) [
    | inl forced ↦ inl (record { performed = it.performed; forced = forced; undone = it.undone })
    | inr free ↦ inr (λ owes. free owes.forced)
  ]
  | inr done ↦ inr (λ owes. done (record { performed = owes.performed; undone = owes.undone }))
]

-- the least that the operation owes, or that it owes nothing
owing : (setting : SettingValue) (before : Before) (op : ℕ) → LeastOf (Owes setting before op) ⊎ ((needs : ℕ) → Owes setting before op needs → ⊥)
owing setting before op = elim (least_below (Owes setting before op) (owes_decided setting before op) (length setting.circuit.ops)) [
  | inl least ↦ inl least
  | inr none ↦ inr (λ needs owes. none needs (forced_within setting.circuit needs op owes.forced) owes)
]

owes_first : (setting : SettingValue) (before : Before) (op : ℕ) (least : LeastOf (Owes setting before op)) → OwesFirst setting before op least.number
owes_first setting before op least = record {
  owed = least.is;
  least = λ other owes. elim (cases_lt other least.number) [
    | inl below ↦ absurd (least.none_below other below owes)
    | inr above ↦ above
  ];
}

-- ---- what is shared

spot_is : (x y : Spot) → same_spot x y ≡ true → x ≡ y
spot_is (place p) (place q) h = ap place (sym (eqb-true q p h))
spot_is (place p) (junction q) h = absurd cc
spot_is (junction p) (place q) h = absurd cc
spot_is (junction p) (junction q) h = ap junction (sym (eqb-true q p h))

spot_itself : (x : Spot) → same_spot x x ≡ true
spot_itself (place p) = eq-eqb p p refl
spot_itself (junction p) = eq-eqb p p refl

meet_decided : (trap : TrapValue) (a b : Action) → Decided (Meet trap a b)
meet_decided trap a b = elim (cases_Bool (list_any (is_worked_on (footprint trap b)) (footprint trap a))) [
  | inl is ↦ (let both = met same_spot spot_is (footprint trap a) (footprint trap b) is in inl (record { spot = both.0; of_a = both.1; of_b = both.2 }))
  | inr isnt ↦ inr (λ meet. (let is = meets same_spot spot_itself (footprint trap a) (footprint trap b) meet.spot meet.of_a meet.of_b in cc))
]

-- the action at that place works on something that this one works on
record MeetsThere (trap : TrapValue) (step : List Action) (action : Action) (k : ℕ) : Type 0 where
  other : Action
  there : slice_get step k ≡ Some other
  meet : Meet trap other action

there_decided : (trap : TrapValue) (step : List Action) (action : Action) (k : ℕ) (found : Option Action) → slice_get step k ≡ found → Decided (MeetsThere trap step action k)
there_decided trap step action k None at = inr (λ it. none-some it.other (sym at ∙ it.there))
there_decided trap step action k (Some other) at = elim (meet_decided trap other action) [
  | inl meet ↦ inl (record { other = other; there = at; meet = meet })
  | inr apart ↦ inr (λ it. apart (subst (λ (a : Action). Meet trap a action) (same_Some it.other other (sym it.there ∙ at)) it.meet))
]

-- where none of these meets it, it is apart from all
apart_from : (trap : TrapValue) (step : List Action) (action : Action) → ((k : ℕ) → k < length step → MeetsThere trap step action k → ⊥) → All (λ (other : Action). AreApart trap other action) step
apart_from trap step action none k d h spot in_other in_action =
    none k h (record { other = get_or step k d; there = slice_get-get_or step k d h; meet = record { spot = spot; of_a = in_other; of_b = in_action } })

meets_first : (trap : TrapValue) (step : List Action) (action : Action) (least : LeastOf (MeetsThere trap step action)) → MeetsFirst trap step action (least.number + 1)
meets_first trap step action least = record {
  place = least.number;
  other = least.is.other;
  number_is = refl;
  there = least.is.there;
  meet = least.is.meet;
  apart = apart_from trap (take least.number step) action (λ k h it.
      let at = slice_taken least.number step it.other k it.there in
      least.none_below k at.0 (record { other = it.other; there = at.1; meet = it.meet }));
}

-- ---- an action

abbrev Offence : SettingValue → Before → Action → Type 0
Offence setting before action = (fault : PlayFault) × Offends setting before action fault

-- the operation of an action
op_itself : (zone : PlaceId) (op : OpId) → performs op.0 (actions.Op zone op) ≡ true
op_itself zone op = eq-eqb op.0 op.0 refl

op_alone : (P : ℕ → Type 0) (zone : PlaceId) (op : OpId) (k : ℕ) → performs k (actions.Op zone op) ≡ true → P op.0 → P k
op_alone P zone op k is p = subst P (eqb-true op.0 k is) p

op_well : (setting : SettingValue) (before : Before) (zone : PlaceId) (op : OpId) → Fits setting before (actions.Op zone op) → ((needs : ℕ) → Owes setting before op.0 needs → ⊥) → was_done before op.0 ≡ false → IsWell setting before (actions.Op zone op)
op_well setting before zone op fits none undone = record {
  passes = fits.passes;
  apart = fits.apart;
  none_owed = λ k needs is. op_alone (λ (n : ℕ). Owes setting before n needs → ⊥) zone op k is (none needs);
  first = λ k is. op_alone (λ (n : ℕ). was_done before n ≡ false) zone op k is undone;
}

other_well : (setting : SettingValue) (before : Before) (action : Action) → Fits setting before action → ((k : ℕ) → performs k action ≡ false) → IsWell setting before action
other_well setting before action fits none = record {
  passes = fits.passes;
  apart = fits.apart;
  none_owed = λ k needs is owes. (let isnt = none k in cc);
  first = λ k is. absurd (let isnt = none k in cc);
}

op_judged : (setting : SettingValue) (before : Before) (zone : PlaceId) (op : OpId) → Fits setting before (actions.Op zone op) → IsWell setting before (actions.Op zone op) ⊎ Offence setting before (actions.Op zone op)
op_judged setting before zone op fits = elim (owing setting before op.0) [
  | inl least ↦ inr (faults.Early (length before.steps + 1) op (numbered least.number), (refl, fits, op_itself zone op, owes_first setting before op.0 least))
  | inr none ↦ elim (cases_Bool (was_done before op.0)) [
    | inl done ↦ inr (faults.Twice (length before.steps + 1) op, (refl, fits, op_itself zone op, none, done))
    | inr undone ↦ inl (op_well setting before zone op fits none undone)
  ]
]

fitting_judged : (setting : SettingValue) (before : Before) (action : Action) → Fits setting before action → IsWell setting before action ⊎ Offence setting before action
fitting_judged setting before (actions.Split zone end count) fits = inl (other_well setting before (actions.Split zone end count) fits (λ k. refl))
fitting_judged setting before (actions.Move from to) fits = inl (other_well setting before (actions.Move from to) fits (λ k. refl))
fitting_judged setting before (actions.Cross crossed from to) fits = inl (other_well setting before (actions.Cross crossed from to) fits (λ k. refl))
fitting_judged setting before (actions.Merge zone end) fits = inl (other_well setting before (actions.Merge zone end) fits (λ k. refl))
fitting_judged setting before (actions.Swap zone index) fits = inl (other_well setting before (actions.Swap zone index) fits (λ k. refl))
fitting_judged setting before (actions.Op zone op) fits = op_judged setting before zone op fits

tested_judged : (setting : SettingValue) (before : Before) (action : Action) (broken : Option Rule) → first_broken (guards setting (config_at setting before) action) ≡ broken → IsWell setting before action ⊎ Offence setting before action
tested_judged setting before action (Some rule) tested = inr (faults.Broken (length before.steps + 1) (length before.actions + 1) rule, ((refl, refl), tested))
tested_judged setting before action None passes =
    let each : (k : ℕ) → Decided (MeetsThere setting.trap before.actions action k) = λ k. there_decided setting.trap before.actions action k (slice_get before.actions k) refl in
    elim (least_below (MeetsThere setting.trap before.actions action) each (length before.actions)) [
      | inl least ↦ inr (faults.Shared (length before.steps + 1) (least.number + 1) (length before.actions + 1), ((refl, refl), passes, meets_first setting.trap before.actions action least))
      | inr none ↦ fitting_judged setting before action (record { passes = passes; apart = apart_from setting.trap before.actions action none })
    ]

action_judged : (setting : SettingValue) (before : Before) (action : Action) → IsWell setting before action ⊎ Offence setting before action
action_judged setting before action = tested_judged setting before action (first_broken (guards setting (config_at setting before) action)) refl

-- ---- a step

abbrev StepJudged : SettingValue → List (List Action) → List Action → Type 0
StepJudged setting past step = StepIsWell setting past step ⊎ ((fault : PlayFault) × StepStops setting past step fault)

step_well_none : (setting : SettingValue) (past : List (List Action)) → StepIsWell setting past []
step_well_none setting past k action at = absurd cc

step_from : (setting : SettingValue) (past : List (List Action)) (step rest : List Action) → StepIsWell setting past step → StepJudged setting past (step ++ rest)
step_from setting past step [] well = inl (subst (StepIsWell setting past) (sym (append-nil step)) well)
step_from setting past step (action ∷ rest) well = elim (action_judged setting (before_of past step) action) [
  | inl is ↦ subst (StepJudged setting past) (append_assoc step (action ∷ []) rest) (step_from setting past (step ++ action ∷ []) rest (step_well_pushed setting past step action well is))
  | inr offence ↦ (let seam : step ≡ take (length step) (step ++ action ∷ rest) = sym (take-append_seam step (action ∷ rest)) in
      inr (
        offence.0,
        record {
          place = length step;
          action = action;
          in_step = at_seam step rest action;
          well = subst (StepIsWell setting past) seam well;
          offends = subst (λ (l : List Action). Offends setting (before_of past l) action offence.0) seam offence.1;
        },
      ))
]

-- ---- a schedule

abbrev AreJudged : SettingValue → List (List Action) → Type 0
AreJudged setting steps = GoWell setting steps ⊎ ((fault : PlayFault) × IsFirst setting steps fault)

steps_from : (setting : SettingValue) (past rest : List (List Action)) → GoWell setting past → AreJudged setting (past ++ rest)
steps_from setting past [] go = inl (subst (GoWell setting) (sym (append-nil past)) go)
steps_from setting past (step ∷ rest) go = elim (step_from setting past [] step (step_well_none setting past)) [
  | inl well ↦ subst (AreJudged setting) (append_assoc past (step ∷ []) rest) (steps_from setting (past ++ step ∷ []) rest (well_pushed setting past step go well))
  | inr stop ↦ (let seam : past ≡ take (length past) (past ++ step ∷ rest) = sym (take-append_seam past (step ∷ rest)) in
      inr (
        stop.0,
        step_first setting (past ++ step ∷ rest) (length past) step stop.0 (at_seam past rest step)
            (subst (GoWell setting) seam go) (subst (λ (l : List (List Action)). StepStops setting l step stop.0) seam stop.1),
      ))
]

fault_of : (setting : SettingValue) (steps : List (List Action)) (fault : PlayFault) → IsFirst setting steps fault → IsFault setting steps fault
fault_of setting steps (faults.Broken step number rule) is = is
fault_of setting steps (faults.Shared step first second) is = is
fault_of setting steps (faults.Early step op needs) is = is
fault_of setting steps (faults.Twice step op) is = is
fault_of setting steps (faults.Missing op) is = absurd is.cause
fault_of setting steps faults.NoMemory is = is

done_or_undone : (circuit : CircuitValue) (steps : List (List Action)) (op : ℕ) → IsTrue (is_performed circuit op) → (IsUndoneBy circuit steps op → ⊥) → is_done steps op ≡ true
done_or_undone circuit steps op performed none = elim (cases_Bool (is_done steps op)) [
  | inl done ↦ done
  | inr undone ↦ absurd (none (record { performed = performed; undone = undone }))
]

-- steps with which all is well play, or lack an operation
well_judged : (setting : SettingValue) (steps : List (List Action)) → GoWell setting steps → IsJudged setting steps
well_judged setting steps go = elim (least_below (IsUndoneBy setting.circuit steps) (undone_decided setting.circuit steps) (length setting.circuit.ops)) [
  | inl least ↦ inr (
    faults.Missing (numbered least.number),
    leaves_out setting steps least.number go least.is.performed least.is.undone (λ other below performed. done_or_undone setting.circuit steps other performed (least.none_below other below)),
  )
  | inr none ↦ inl (plays setting steps go (λ k performed. done_or_undone setting.circuit steps k performed (none k (performed_within setting.circuit k performed))))
]

pub judged : (setting : SettingValue) (steps : List (List Action)) → IsJudged setting steps
judged setting steps = elim (steps_from setting [] steps (well_none setting)) [
  | inl go ↦ well_judged setting steps go
  | inr stop ↦ inr (stop.0, fault_of setting steps stop.0 stop.1)
]
